-- Variables as they are written: a name, behind a path of modules or none.
use Rattle.std.specs.Prelude.{ℕ, List, [], Option, Some, None}
use Rattle.rhai_machine.specs.Types.{Position}
use Rattle.rhai_tree.specs.declared.expr.Expr.TheOpen as layer
use Rattle.rhai_tree.specs.declared.expr.Namespace.{Namespace}
use Rattle.rhai_tree.specs.Layers.{ExprLayer}
use Rattle.rhai_tree.specs.Position.{none}

-- the names of modules in front of a name, the root first, and where they stand
pub record Path : Type 0 where
  pub names : List (List ℕ)
  pub at : Position

-- a variable as it is written: its path, its name, and where the name stands
pub record Variable : Type 0 where
  pub path : Path
  pub name : List ℕ
  pub at : Position

-- the path of a name by itself: nothing stands in front of it
abbrev pub no_path : Path
no_path = record { names = []; at = none }

-- the path that a namespace is
abbrev pub path_of : Namespace → Path
path_of namespace = record { names = namespace.path; at = namespace.position }

-- the variable of this name behind a namespace, at this position
abbrev pub variable_named : (name : List ℕ) → Namespace → (at : Position) → Variable
variable_named name namespace at = record { path = path_of namespace; name = name; at = at }

-- the variable that an expression is, if it is one
abbrev pub variable_in : ExprLayer → Option Variable
variable_in (layer.Variable offset name namespace pos) = Some (variable_named name namespace pos)
variable_in _ = None
