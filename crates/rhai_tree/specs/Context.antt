-- What surrounds a form of the tree.
use Rattle.std.specs.Prelude.{Bool, true, false, List, [], ◌∷◌, ◌++◌}
use Rattle.rhai_tree.specs.Names.{Name}

-- the names declared so far in the frame and its imports, oldest first, and whether the form stands in a loop of its function, and in
-- the tree's top list
pub record Context : Type 0 where
  pub names : List Name
  pub imports : List Name
  pub in_loop : Bool
  pub in_top : Bool

-- where a tree starts
abbrev pub top : Context
top = record { names = []; imports = []; in_loop = false; in_top = true }

-- where the body of a function with these parameters starts
abbrev pub body_with : List Name → Context
body_with params = record { names = params; imports = []; in_loop = false; in_top = false }

-- inside a block, which is not the tree's top list
abbrev pub inside : Context → Context
inside c = record c { in_top = false }

-- inside a loop
abbrev pub looping : Context → Context
looping c = record c { in_loop = true }

-- after a declaration
abbrev pub declaring : Name → Context → Context
declaring name c = record c { names = c.names ++ name ∷ [] }

-- after an import
abbrev pub importing : Name → Context → Context
importing name c = record c { imports = c.imports ++ name ∷ [] }
