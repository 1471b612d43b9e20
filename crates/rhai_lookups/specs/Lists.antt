-- The libraries and imports of a run, and what is kept of a lookup in them.
use Rattle.std.specs.Prelude.{Bool, false, ◌||◌, List, [], ◌∷◌, ◌++◌, Option, is_some, length, take}
use Rattle.std.specs.Option.{option_map, option_or}
use Rattle.rhai_values.specs.declared.base.value.Import.{Import, out-Import}
use Rattle.rhai_values.specs.declared.base.value.Module.{Module}
use Rattle.rhai_values.specs.declared.base.value.ModuleFn.{ModuleFn, out-ModuleFn}
use Rattle.rhai_functions.specs.Called.{function_of}
use Rattle.rhai_functions.specs.Functions.{FunctionKey, functions_of, in_imports, in_modules}
use Rattle.rhai_functions.specs.Words.{has_own_meaning}
use Rattle.rhai_lookups.specs.declared.cache.Extent.{Extent}
use Rattle.rhai_lookups.specs.declared.cache.Kept.{Kept}

-- libraries, first to last, and imports, the newest last
abbrev pub Lists : Type 0 → Type 0
Lists H = List (Module H) × List (Import H)

module _ {H : Type 0} where
  -- how many libraries and imports there are
  abbrev pub extent_of : Lists H → Extent
  extent_of lists = record { libs = length lists.0; imports = length lists.1 }

  -- the first so many of each
  abbrev pub first_of : Lists H → Extent → Lists H
  first_of lists extent = (take extent.libs lists.0, take extent.imports lists.1)

  -- one more library, the last
  abbrev pub with_library : Lists H → Module H → Lists H
  with_library lists library = (lists.0 ++ library ∷ [], lists.1)

  -- one more import, the newest
  abbrev pub with_import : Lists H → Import H → Lists H
  with_import lists i = (lists.0, lists.1 ++ i ∷ [])

  -- the function of a key in the libraries, or else in the imports
  abbrev pub among : FunctionKey → Lists H → Option (ModuleFn H)
  among key lists = option_or (in_modules key lists.0) (in_imports key lists.1)

  -- what is kept of a lookup: the function, if there is one, whether a library has it, and whether the name means something else too
  abbrev pub kept_of : Lists H → FunctionKey → Kept H
  kept_of lists key = record {
    found = option_map function_of (among key lists);
    in_libraries = is_some (in_modules key lists.0);
    is_word = has_own_meaning key.name;
  }

  -- one of some functions is found without its module's name, if anybody may call it
  abbrev pub any_global : List (ModuleFn H) → Bool
  any_global [] = false
  any_global (f ∷ functions) = (out-ModuleFn H f).is_global || any_global functions

  -- an import has a function that may be found without its name
  abbrev pub has_global : Import H → Bool
  has_global i = any_global (functions_of (out-Import H i).«module»)
