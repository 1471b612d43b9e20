use Rattle.std.proofs.Common.{rules}
use Rattle.rhai_state.specs.Deciding.{is_there}
use Rattle.rhai_state.specs.Reached.{table_holds}
use Rattle.rhai_state.proofs.Lists.{given_more, given_not}
use Rattle.rhai_state.proofs.fitting.tables_fit.Goals as goal

pub returns-then-not-values_fit : goal.returns-then-not-values_fit
returns-then-not-values_fit g c =
    given_not (is_there c.args.global.now) table_holds c.args.global.now.constant_tables c.loop-table.table-index c.table-item.result
    (search rules) (search rules) (search rules)

pub loop-table-preserved : goal.loop-table-preserved
loop-table-preserved g c =
    given_more (is_there c.args.global.now) table_holds c.args.global.now.constant_tables c.loop-table.table-index c.table-item.result
    (search rules) (search rules) c.loop-table.invariant (search rules)
