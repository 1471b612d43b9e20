-- Names that mean something besides functions.
use Rattle.std.specs.Prelude.{ℕ, Bool, ◌||◌, List, codes}
use Rattle.std.specs.Str.{bytes_eq}

-- one of the eight names that mean something besides functions
abbrev pub has_own_meaning : List ℕ → Bool
has_own_meaning name = bytes_eq name (codes "call") || (bytes_eq name (codes "Fn") || (bytes_eq name (codes "curry")
    || (bytes_eq name (codes "is_shared") || (bytes_eq name (codes "is_def_var") || (bytes_eq name (codes "type_of")
    || (bytes_eq name (codes "eval") || bytes_eq name (codes "is_def_fn")))))))
