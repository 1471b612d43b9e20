use Rattle.std.proofs.Common.{◌≡◌, ◌∙◌}
use Rattle.rhai_machine.specs.language.Calls.{call_of, plainly}
use Rattle.rhai_machine.specs.language.Frames.{Operation}
use Rattle.rhai_machine.specs.language.Setting.{Rules}
use Rattle.rhai_machine.specs.language.State.{State}
use Rattle.rhai_steps.specs.Operations.{operation_of}
use Rattle.rhai_steps.specs.Sessions.{under}
use Rattle.rhai_steps.specs.States.{state_of}
use Rattle.rhai_calls.proofs.Dispatching.{calls_ended, calls_entered}
use Rattle.rhai_calls.proofs.Taking.{written}
use Rattle.rhai_calls.proofs.dispatch.call_all.Goals as goal

pub returns-in-Ended-clause-runs : goal.returns-in-Ended-clause-runs
returns-in-Ended-clause-runs g c scope held on_scope =
    let rules : Rules _ _ = under g.H.Host.name_of c.args.session.now g.T.NativeTable.natives in
    let operation : Operation = operation_of c.args.operation.now in
    let s : State _ _ = state_of (g.T.NativeTable.state c.args.table.now) c.args.global.now scope held in
    let new : State _ _ = state_of (g.T.NativeTable.state c.pass_all.new.table) c.pass_all.new.global scope held in
    calls_ended rules s new (plainly c.args.natives_alone on_scope) (call_of operation c.args.args.now) c.in-Ended.result
    c.drop_changed.result
    c.in-Ended.ensures.untold c.drop_changed.ensures
    (rw c.as_mut_slice-values.ensures.value at (c.in-Ended.ensures.runs scope held on_scope))

pub returns-in-Enters-clause-runs : goal.returns-in-Enters-clause-runs
returns-in-Enters-clause-runs g c scope held on_scope =
    let rules : Rules _ _ = under g.H.Host.name_of c.args.session.now g.T.NativeTable.natives in
    let operation : Operation = operation_of c.args.operation.now in
    let s : State _ _ = state_of (g.T.NativeTable.state c.args.table.now) c.args.global.now scope held in
    let new : State _ _ = state_of (g.T.NativeTable.state c.pass_all.new.table) c.pass_all.new.global scope held in
    let is : _ ≡ c.args.args.now =
    written c.args.args.now c.pass_all.new.args (c.in-Enters.ensures.same ∙ c.as_mut_slice-values.ensures.value) in
    rw is (calls_entered rules s new c.args.natives_alone on_scope operation c.args.args.now c.in-Enters.function
    (rw c.as_mut_slice-values.ensures.value at (c.in-Enters.ensures.runs scope held on_scope)))
