use Rattle.std.proofs.Common.{not}
use Rattle.rhai_machine.specs.language.Calls.{plainly}
use Rattle.rhai_machine.specs.language.Setting.{Rules}
use Rattle.rhai_machine.specs.language.Frames.{Operation, ToCall}
use Rattle.rhai_steps.specs.Operations.{operation_of}
use Rattle.rhai_steps.specs.Sessions.{under}
use Rattle.rhai_steps.specs.States.{state_of}
use Rattle.rhai_calls.specs.Called.{with_args}
use Rattle.rhai_callees.proofs.Going.{calls_joined, there_runs_out_fresh}
use Rattle.rhai_callees.proofs.call_curried.Goals as goal

pub returns-in-Ok-clause-runs : goal.returns-in-Ok-clause-runs
returns-in-Ok-clause-runs g c scope held on_scope =
    let rules : Rules _ _ = under g.H.Host.name_of c.args.session.now g.T.NativeTable.natives in
    let operation : Operation = operation_of c.args.operation.now in
    calls_joined rules operation c.args.curried c.args.args.now c.join.new.args c.in-Ok.ensures.joined
    (state_of (g.T.NativeTable.state c.args.table.now) c.args.global.now scope held)
    (state_of (g.T.NativeTable.state c.call_all.new.table) c.call_all.new.global scope held)
    (plainly c.args.natives_alone on_scope) (with_args c.call_all.result c.call_all.new.args)
    (c.call_all.ensures.runs scope held on_scope)

pub returns-in-Err-clause-runs : goal.returns-in-Err-clause-runs
returns-in-Err-clause-runs g c scope held on_scope =
    let rules : Rules _ _ = under g.H.Host.name_of c.args.session.now g.T.NativeTable.natives in
    let operation : Operation = operation_of c.args.operation.now in
    there_runs_out_fresh rules (ToCall operation c.args.curried (plainly c.args.natives_alone on_scope)) c.args.args.now (not
    on_scope) c.args.operation.now.at
    (state_of (g.T.NativeTable.state c.args.table.now) c.args.global.now scope held) c.in-Err.error c.in-Err.ensures.refused
