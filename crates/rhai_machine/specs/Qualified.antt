-- What a name behind a path means, as a value: a constant of the module that the path leads to. Where nothing has the path's first name
-- and the path is `global` alone, it is one of the state's constants.
use Rattle.std.specs.Prelude.{ℕ, Bool, true, false, List, [], ◌∷◌, ◌++◌, Option, Some, None, Result, Ok, Err, codes}
use Rattle.std.specs.Option.{option_and_then}
use Rattle.std.specs.Str.{bytes_eq}
use Rattle.rhai_tree.specs.Lookup.{value_of}
use Rattle.rhai_tree.specs.declared.position.Position.{Position}
use Rattle.rhai_values.specs.declared.base.value.AccessMode.TheVariants.{ReadOnly}
use Rattle.rhai_values.specs.declared.base.value.Dynamic.{Dynamic}
use Rattle.rhai_values.specs.declared.base.value.Import.{Import}
use Rattle.rhai_values.specs.declared.base.value.Module.{Module}
use Rattle.rhai_values.specs.Copy.{copy_of}
use Rattle.rhai_values.specs.Modes.{with_mode}
use Rattle.rhai_errors.specs.declared.error.EvalAltResult.{EvalAltResult}
use Rattle.rhai_errors.specs.declared.error.EvalAltResult.TheVariants as error
use Rattle.rhai_functions.specs.Namespaces.{constant_in, down, root_in}

-- names behind a text, each after `::`
abbrev pub text_behind : List (List ℕ) → List ℕ
text_behind [] = []
text_behind (name ∷ names) = codes "::" ++ (name ++ text_behind names)

-- a path as it is written
abbrev pub path_text : List (List ℕ) → List ℕ
path_text [] = []
path_text (root ∷ path) = root ++ text_behind path

-- a path is that of the state's own constants
abbrev pub is_global : List (List ℕ) → Bool
is_global (root ∷ []) = bytes_eq root (codes "global")
is_global _ = false

module _ {H : Type 0} where
  -- a copy that may not be written in any part
  abbrev pub read_only : Dynamic H → Dynamic H
  read_only v = with_mode ReadOnly (copy_of v)

  -- what was found of a name, or that there is no such variable
  abbrev pub found_or_missing : Option (Dynamic H) → (text : List ℕ) → Position → Result (Dynamic H) (EvalAltResult H)
  found_or_missing (Some v) text at = Ok (read_only v)
  found_or_missing None text at = Err (error.ErrorVariableNotFound text at)

  -- without a root: a constant of the state, or there is no such module
  abbrev pub without_root : (is_global : Bool) → Option (Dynamic H) → (path : List (List ℕ)) → (text : List ℕ) → Position →
      Result (Dynamic H) (EvalAltResult H)
  without_root true own path text at = found_or_missing own text at
  without_root false own path text at = Err (error.ErrorModuleNotFound (path_text path) at)

  -- what a name means from the root of its path on, if there is a root
  abbrev pub from_root : Option (Module H) → (own : Option (Dynamic H)) → (path rest : List (List ℕ)) → (name : List ℕ) → Position →
      Result (Dynamic H) (EvalAltResult H)
  from_root (Some root) own path rest name at =
      found_or_missing (option_and_then (constant_in name) (down rest (Some root))) (path_text path ++ text_behind (name ∷ [])) at
  from_root None own path rest name at = without_root (is_global path) own path (path_text path ++ text_behind (name ∷ [])) at

  -- what a name behind a path means: `constants` are the state's own, and `named` the engine's modules under names
  abbrev pub qualified : (imports : List (Import H)) → (named : List (List ℕ) × List (Module H)) →
      (constants : List (List ℕ) × List (Dynamic H)) → (path : List (List ℕ)) → (name : List ℕ) → Position →
      Result (Dynamic H) (EvalAltResult H)
  qualified imports named constants [] name at = Err (error.ErrorModuleNotFound [] at)
  qualified imports named constants (root ∷ rest) name at =
      from_root (root_in root imports named) (value_of name constants) (root ∷ rest) rest name at
