-- Where a path begins: at the import that its index leads to, or at what its root's name means.
use Rattle.std.specs.Prelude.{ℕ, ◌-◌, List, [], ◌∷◌, length, slice_get, Option, Some, None, Result, Err}
use Rattle.std.specs.Int.NonZero.{non_zero_usize_get}
use Rattle.std.specs.Option.{option_map}
use Rattle.std.specs.declared.num.NonZeroUsize.{NonZeroUsize}
use Rattle.rhai_tree.specs.Lookup.{value_of}
use Rattle.rhai_tree.specs.declared.position.Position.{Position}
use Rattle.rhai_values.specs.declared.base.value.Dynamic.{Dynamic}
use Rattle.rhai_values.specs.declared.base.value.Import.{Import, out-Import}
use Rattle.rhai_values.specs.declared.base.value.Module.{Module}
use Rattle.rhai_errors.specs.declared.error.EvalAltResult.{EvalAltResult}
use Rattle.rhai_errors.specs.declared.error.EvalAltResult.TheVariants as error
use Rattle.rhai_functions.specs.Namespaces.{root_in}
use Rattle.rhai_machine.specs.Qualified.{from_root}
use Rattle.rhai_machine.specs.language.Names.{own_constants}
use Rattle.rhai_machine.specs.language.Setting.{Globals}
use Rattle.rhai_machine.specs.language.State.{Surroundings}

module _ {H : Type 0} where
  -- the module of an import
  abbrev pub module_of : Import H → Module H
  module_of i = (out-Import H i).«module»

  -- the module of the import at an offset from the newest
  abbrev pub import_at : List (Import H) → ℕ → Option (Module H)
  import_at imports offset = option_map module_of (slice_get imports (length imports - offset))

  -- the root of a path: by its offset among the imports where one is in use, and else by its name
  abbrev pub root_searched : Option NonZeroUsize → (path : List (List ℕ)) → List (Import H) → (named : List (List ℕ) × List (Module H)) →
      Option (Module H)
  root_searched (Some offset) path imports named = import_at imports (non_zero_usize_get offset)
  root_searched None [] imports named = None
  root_searched None (root ∷ path) imports named = root_in root imports named

  module _ (globals : Globals H) (around : Surroundings H) where
    -- what a name means behind a path that begins at a root, if there is one; an empty path has none
    abbrev pub behind_root : Option (Module H) → (path : List (List ℕ)) → (name : List ℕ) → Position →
        Result (Dynamic H) (EvalAltResult H)
    behind_root root [] name at = Err (error.ErrorModuleNotFound [] at)
    behind_root root (first ∷ rest) name at =
        from_root root (value_of name (own_constants around)) (first ∷ rest) rest name at

    -- what a name means behind a path, whose root is found by its offset where one is in use, and else by its name
    abbrev pub path_searched : Option NonZeroUsize → (path : List (List ℕ)) → (name : List ℕ) → Position →
        Result (Dynamic H) (EvalAltResult H)
    path_searched index path name at = behind_root (root_searched index path around.imports globals.named) path name at
