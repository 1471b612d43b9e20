-- The state of a caller, as a run takes it and gives it back.
use Rattle.std.specs.Prelude.{Bool}
use Rattle.rhai_state.specs.declared.state.GlobalRuntimeState.{GlobalRuntimeState}
use Rattle.rhai_lookups.specs.declared.run.RunState.{RunState}
use Rattle.rhai_lookups.specs.Lists.{Lists}

module _ {H : Type 0} where
  -- the libraries and imports of a caller's state
  abbrev pub lists_of : GlobalRuntimeState H → Lists H
  lists_of global = (global.lib, global.imports)

  -- the state of a run that was taken of a caller's
  abbrev pub run_of : GlobalRuntimeState H → RunState H
  run_of global = record {
    lists = (global.lib, global.imports);
    constants = global.constants;
    level = global.level;
    scope_level = global.scope_level;
    num_operations = global.num_operations;
    num_modules_loaded = global.num_modules_loaded;
    source = global.source;
    always_search_scope = global.always_search_scope;
    cells = global.cells;
    constant_tables = global.constant_tables;
  }

  -- what a caller gets of the state of a run: all but whether variables are searched for
  abbrev pub given_back : (searched : Bool) → RunState H → GlobalRuntimeState H
  given_back searched run = record {
    lib = run.lists.0;
    imports = run.lists.1;
    constants = run.constants;
    level = run.level;
    scope_level = run.scope_level;
    num_operations = run.num_operations;
    num_modules_loaded = run.num_modules_loaded;
    source = run.source;
    always_search_scope = searched;
    cells = run.cells;
    constant_tables = run.constant_tables;
  }
