use Rattle.std.proofs.Common.{◌≡◌, true, flat_map, take}
use Rattle.rhai_state.specs.Deciding.{are_there}
use Rattle.rhai_state.specs.Reached.{table_holds}
use Rattle.rhai_state.proofs.fitting.tables_fit.Given as goal

abbrev pub invariant-loop-table : goal.invariant-loop-table
invariant-loop-table g l = are_there l.global (flat_map table_holds (take l.table-index l.global.constant_tables)) ≡ true
