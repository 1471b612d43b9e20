-- Where the path in front of a name leads: to its root, and from there down.
use Rattle.std.specs.Prelude.{ℕ, List, [], ◌∷◌, Option, Some, None, if◌then◌else◌}
use Rattle.std.specs.Option.{option_and_then, option_or}
use Rattle.std.specs.Str.{bytes_eq}
use Rattle.rhai_tree.specs.Lookup.{value_of}
use Rattle.rhai_values.specs.declared.base.value.Dynamic.{Dynamic}
use Rattle.rhai_values.specs.declared.base.value.Import.{Import, out-Import}
use Rattle.rhai_values.specs.declared.base.value.Module.{Module, out-Module}
use Rattle.rhai_values.specs.declared.base.value.ModuleFn.{ModuleFn}
use Rattle.rhai_functions.specs.Functions.{FunctionKey, def_of, first_given, in_module, is_public, last_given}

module _ {H : Type 0} where
  -- an import's module, where it is of the name
  abbrev pub module_if_named : List ℕ → Import H → Option (Module H)
  module_if_named name i = if bytes_eq (out-Import H i).name name then Some (out-Import H i).«module» else None

  -- the module that a name was last imported for
  abbrev pub imported : List ℕ → List (Import H) → Option (Module H)
  imported name imports = last_given (module_if_named name) imports

  -- the root of a path: what was imported under the name, or else the module that is found by it
  abbrev pub root_in : List ℕ → List (Import H) → (named : List (List ℕ) × List (Module H)) → Option (Module H)
  root_in name imports named = option_or (imported name imports) (value_of name named)

  -- the module of a name in another
  abbrev pub module_in : List ℕ → Module H → Option (Module H)
  module_in name m = value_of name (out-Module H m).sub_modules

  -- the module that a path leads to, from one on
  abbrev pub down : (path : List (List ℕ)) → Option (Module H) → Option (Module H)
  down [] from = from
  down (name ∷ path) from = down path (option_and_then (module_in name) from)

  -- the constant of a name in a module
  abbrev pub constant_in : List ℕ → Module H → Option (Dynamic H)
  constant_in name m = value_of name (out-Module H m).constants

  -- the constant of a name in the first of some modules that has one
  abbrev pub constant_among : List ℕ → List (Module H) → Option (Dynamic H)
  constant_among name modules = first_given (constant_in name) modules

  -- a function that anybody may call, None for any other
  abbrev pub if_public : Option (ModuleFn H) → Option (ModuleFn H)
  if_public (Some f) = if is_public (def_of f).access then Some f else None
  if_public None = None

  -- the function of a key in a module, where anybody may call it
  abbrev pub public_in : FunctionKey → Module H → Option (ModuleFn H)
  public_in key m = if_public (in_module key m)
