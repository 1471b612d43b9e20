-- The state of a run: what it is at first, and its imports as a plain list.
use Rattle.std.specs.Prelude.{◌≡◌, ℕ, false, List, [], ◌∷◌, Option, None}
use Rattle.rhai_values.specs.declared.base.value.Import.{Import, out-Import, roll-Import}
use Rattle.rhai_values.specs.declared.base.value.Module.{Module}
use Rattle.rhai_state.specs.declared.state.GlobalRuntimeState.{GlobalRuntimeState}
use Rattle.rhai_values.specs.Cells.{cells_of}
use Rattle.rhai_state.specs.Newest.{newest}

module _ {H : Type 0} where
  -- the state before anything ran: the one table of constants, the first, is empty and current
  pub record IsFresh (global : GlobalRuntimeState H) : Type 0 where
    pub lib : global.lib ≡ []
    pub imports : global.imports ≡ []
    pub constants : global.constants ≡ 0
    pub level : global.level ≡ 0
    pub scope_level : global.scope_level ≡ 0
    pub num_operations : global.num_operations ≡ 0
    pub num_modules_loaded : global.num_modules_loaded ≡ 0
    pub source : global.source ≡ None
    pub always_search_scope : global.always_search_scope ≡ false
    pub cells : cells_of global.cells ≡ []
    pub constant_tables : global.constant_tables ≡ ([], []) ∷ []

  -- a module under the name that it was imported by
  abbrev pub import_as : List ℕ → Module H → Import H
  import_as name imported = roll-Import H (record { name = name; «module» = imported })

  -- the name that a module was imported by
  abbrev pub import_name : Import H → List ℕ
  import_name i = (out-Import H i).name

  -- where the newest import of a name stands, counted from the start
  abbrev pub import_of : List ℕ → List (Import H) → Option ℕ
  import_of name imports = newest import_name name imports

  -- the state with other imports
  abbrev pub with_imports : GlobalRuntimeState H → List (Import H) → GlobalRuntimeState H
  with_imports global imports = record global { imports = imports }
