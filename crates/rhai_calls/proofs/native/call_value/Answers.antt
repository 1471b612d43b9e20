use Rattle.std.proofs.Common.{refl}
use Rattle.rhai_errors.specs.Native.{reply_of}
use Rattle.rhai_values.specs.Cells.{cells_of}
use Rattle.rhai_machine.specs.language.Frames.{Operation}
use Rattle.rhai_machine.specs.language.Setting.{Rules}
use Rattle.rhai_steps.specs.Operations.{operation_of}
use Rattle.rhai_steps.specs.Sessions.{under}
use Rattle.rhai_calls.proofs.Lent.{handle_none}
use Rattle.rhai_calls.proofs.NativeCalls.{calls_barred, calls_on, untold_by}
use Rattle.rhai_calls.proofs.native.call_value.Goals as goal

pub returns-in-Err-clause-runs : goal.returns-in-Err-clause-runs
returns-in-Err-clause-runs g c =
    let rules : Rules _ _ = under g.H.Host.name_of c.args.session.now g.T.NativeTable.natives in
    let operation : Operation = operation_of c.args.operation.now in
    calls_barred rules (cells_of c.args.cells.now) (cells_of c.args.cells.now) operation c.args.id c.args.passing.guarded
    c.args.passing.marks c.args.first.now c.args.rest.now (g.T.NativeTable.state c.args.table.now)
    (handle_none c.args.first.now.value c.requires) c.in-Err.error c.ask_native.new.first
    (g.T.NativeTable.state c.ask_native.new.table) _ c.in-Err.ensures.barred refl

pub returns-in-Ok-clause-runs : goal.returns-in-Ok-clause-runs
returns-in-Ok-clause-runs g c =
    let rules : Rules _ _ = under g.H.Host.name_of c.args.session.now g.T.NativeTable.natives in
    let operation : Operation = operation_of c.args.operation.now in
    calls_on rules (cells_of c.args.cells.now) (cells_of c.args.cells.now) operation c.args.id c.args.passing.guarded
    c.args.passing.marks c.args.first.now c.args.rest.now (g.T.NativeTable.state c.args.table.now)
    (handle_none c.args.first.now.value c.requires) (reply_of c.in-Ok.answer) c.ask_native.new.first
    (g.T.NativeTable.state c.ask_native.new.table) c.in-Ok.changed c.is_some-by_number.result c.replied-result.result c.tell_changed.result
    c.in-Ok.ensures.asked c.is_some-by_number.ensures c.replied-result.ensures.told c.replied-result.ensures.memory c.tell_changed.ensures

pub returns-in-Ok-clause-untold : goal.returns-in-Ok-clause-untold
returns-in-Ok-clause-untold g c = untold_by _ _ _ _ _ _ c.in-Ok.ensures.asked.2 c.tell_changed.ensures
