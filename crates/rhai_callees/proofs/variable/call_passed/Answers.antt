use Rattle.std.proofs.Common.{◌∷◌, None, false}
use Rattle.rhai_machine.specs.language.Calls.{plainly}
use Rattle.rhai_machine.specs.language.Setting.{Rules}
use Rattle.rhai_machine.specs.language.Frames.{Dispatch, Operation}
use Rattle.rhai_machine.specs.language.State.{State}
use Rattle.rhai_steps.specs.Operations.{operation_of}
use Rattle.rhai_steps.specs.Sessions.{under}
use Rattle.rhai_steps.specs.States.{state_of}
use Rattle.rhai_calls.specs.Called.{with_args}
use Rattle.rhai_steps.specs.Lending.{lent_call}
use Rattle.rhai_calls.proofs.Dispatching.{calls_ended}
use Rattle.rhai_callees.proofs.Going.{calls_given}
use Rattle.rhai_callees.proofs.variable.call_passed.Goals as goal

pub returns-in-Ended-clause-runs : goal.returns-in-Ended-clause-runs
returns-in-Ended-clause-runs g c scope held on_scope =
    let rules : Rules _ _ = under g.H.Host.name_of c.args.session.now g.T.NativeTable.natives in
    let how : Dispatch = plainly c.args.natives_alone on_scope in
    let operation : Operation = operation_of c.args.operation.now in
    let s : State _ _ = state_of (g.T.NativeTable.state c.args.table.now) c.args.global.now scope held in
    calls_ended rules s (state_of (g.T.NativeTable.state c.pass_call.new.table) c.pass_call.new.global scope held) how
    (lent_call operation None false (c.args.first ∷ c.args.args.now))
    c.in-Ended.result c.drop_changed.result c.in-Ended.ensures.untold c.drop_changed.ensures
    (rw c.as_slice-rest.ensures at (c.in-Ended.ensures.runs scope held None on_scope tt))

pub returns-in-Enters-clause-runs : goal.returns-in-Enters-clause-runs
returns-in-Enters-clause-runs g c scope held on_scope =
    let rules : Rules _ _ = under g.H.Host.name_of c.args.session.now g.T.NativeTable.natives in
    let how : Dispatch = plainly c.args.natives_alone on_scope in
    let operation : Operation = operation_of c.args.operation.now in
    let s : State _ _ = state_of (g.T.NativeTable.state c.args.table.now) c.args.global.now scope held in
    calls_given rules c.args.natives_alone on_scope false operation None c.args.first c.args.args.now c.in-Enters.function s
    (state_of (g.T.NativeTable.state c.pass_call.new.table) c.pass_call.new.global scope held) (with_args c.enter_with.result
    c.enter_with.new.args)
    (rw c.as_slice-rest.ensures at (c.in-Enters.ensures.runs scope held None on_scope tt))
    (rw c.in-Enters.ensures.same at c.enter_with.ensures)
