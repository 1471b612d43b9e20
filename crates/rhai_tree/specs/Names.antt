-- Names in the order in which they were declared, oldest first, and where the newest of a name stands.
use Rattle.std.specs.Prelude.{◌≡◌, ℕ, zero, suc, Bool, true, false, List, [], ◌∷◌, ◌++◌, length, nat_eq, Option, Some, None}
use Rattle.std.specs.Str.{bytes_eq}
use Rattle.std.specs.Int.NonZero.{non_zero_usize_get}
use Rattle.std.specs.declared.num.NonZeroUsize.{NonZeroUsize}

-- a name, by the bytes of its text
abbrev pub Name : Type 0
Name = List ℕ

-- the offset found further on, or else this one, where the name stands here, or else zero
abbrev pub further : ℕ → Bool → ℕ → ℕ
further (suc k) test at = suc k
further zero true at = at
further zero false at = zero

-- where the newest of a name stands, counted from the end; zero where there is none
abbrev pub offset_of : Name → List Name → ℕ
offset_of name [] = zero
offset_of name (n ∷ ns) = further (offset_of name ns) (bytes_eq n name) (suc (length ns))

-- the name at an offset from the end is this name, and no later one is
abbrev pub stands : Name → ℕ → List Name → Bool
stands name zero names = false
stands name (suc k) names = nat_eq (offset_of name names) (suc k)

-- an offset is not given, or the newest of the name stands there
abbrev pub is_good : Option NonZeroUsize → Name → List Name → Bool
is_good None name names = true
is_good (Some offset) name names = stands name (non_zero_usize_get offset) names

-- the index of a path is not given, or the newest import of its root's name stands there; an empty path has no root
abbrev pub is_good_root : Option NonZeroUsize → (path : List Name) → (imports : List Name) → Bool
is_good_root index [] imports = true
is_good_root index (root ∷ path) imports = is_good index root imports

-- what a part of a tree stands above: the names of the variables and those of the imports, each oldest first
pub record Frame : Type 0 where
  pub names : List Name
  pub imports : List Name

-- a frame with one more variable, the newest
abbrev pub with_variable : Name → Frame → Frame
with_variable name frame = record frame { names = frame.names ++ name ∷ [] }

-- a frame with one more import, the newest
abbrev pub with_import : Name → Frame → Frame
with_import name frame = record frame { imports = frame.imports ++ name ∷ [] }

-- a frame whose names of variables are changed by a function
abbrev pub naming : (List Name → List Name) → Frame → Frame
naming change frame = record frame { names = change frame.names }

-- the new names begin with the old ones
abbrev pub Begins : List Name → List Name → Type 0
Begins old new = (added : List Name) × (new ≡ old ++ added)
