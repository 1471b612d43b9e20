use Rattle.rhai_values.specs.Cells.{cells_of}
use Rattle.rhai_errors.specs.Native.{reply_of}
use Rattle.rhai_machine.specs.language.Frames.{Operation}
use Rattle.rhai_machine.specs.language.Runs.{Goes}
use Rattle.rhai_machine.specs.language.Setting.{Rules}
use Rattle.rhai_steps.specs.Operations.{operation_of}
use Rattle.rhai_steps.specs.Sessions.{under}
use Rattle.rhai_calls.specs.Natives.{over_cells}
use Rattle.rhai_calls.proofs.NativeCalls.{fires_alone, tells_it, untold_it}
use Rattle.rhai_calls.proofs.native.call_alone.Goals as goal

pub returns-clause-runs : goal.returns-clause-runs
unfolding Goes
returns-clause-runs g c count l k =
    let before = over_cells (cells_of c.args.cells.now) l in
    let rules : Rules _ _ = under g.H.Host.name_of c.args.session.now g.T.NativeTable.natives in
    let operation : Operation = operation_of c.args.operation.now in
    fires_alone rules operation c.args.id k (record { table = g.T.NativeTable.state c.args.table.now; count = count; local = before })
    c.args.marks c.is_some-by_number.result (reply_of c.answer_alone-answer.result) (g.T.NativeTable.state c.answer_alone-answer.new.table)
    c.settle_lone_reply-result.result c.tell_changed.result c.answer_alone-answer.ensures.obeys
    (record { no_handle = tt; leaves = c.answer_alone-answer.ensures.leaves })
    c.is_some-by_number.ensures
    (c.settle_lone_reply-result.ensures.told before.around.cells) c.settle_lone_reply-result.ensures.memory
    (tells_it _ _ _ _ _ _ _ c.alone_may_change-changes.ensures c.has_changed-changed.ensures c.tell_changed.ensures)

pub returns-clause-untold : goal.returns-clause-untold
returns-clause-untold g c =
    untold_it _ _ _ _ _ _ _ c.alone_may_change-changes.ensures c.has_changed-changed.ensures c.tell_changed.ensures
