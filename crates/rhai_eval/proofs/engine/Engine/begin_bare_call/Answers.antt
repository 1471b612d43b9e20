use Rattle.std.proofs.Common.{◌++◌, drop, length, take, ◌∙◌}
use Rattle.rhai_machine.specs.language.Frames.{Operation}
use Rattle.rhai_machine.specs.language.Setting.{Rules}
use Rattle.rhai_steps.specs.Operations.{operation_of}
use Rattle.rhai_lookups.proofs.Returned.{returned}
use Rattle.rhai_steps.specs.Callers.{state_of}
use Rattle.rhai_steps.specs.States.{state_of as run_state}
use Rattle.rhai_eval.specs.States.{under}
use Rattle.rhai_eval.proofs.Public.{session_rules}
use Rattle.rhai_eval.proofs.Dispatching.{none_ended, none_found, none_left}
use Rattle.rhai_eval.proofs.engine.Engine.begin_bare_call.Goals as goal

pub returns-in-Ended-clause-runs : goal.returns-in-Ended-clause-runs
returns-in-Ended-clause-runs g c scope held on_scope =
    let rules : Rules _ _ = under g.H.Host.name_of c.args.self.now g.T.NativeTable.natives in
    let operation : Operation = operation_of c.args.operation.now in
    rw c.give_state.ensures.global
    (none_ended rules operation on_scope c.pass_all-dispatched.result
    (state_of (g.T.NativeTable.state c.args.table.now) c.args.global.now scope held)
    (run_state (g.T.NativeTable.state c.pass_all-dispatched.new.table) c.pass_all-dispatched.new.global scope held)
    (session_rules g.H.Host.name_of g.T.NativeTable.natives c.args.self.now c.session-session.result
    c.session-session.ensures.limits c.session-session.ensures.offer)
    c.in-Ended.result
    c.in-Ended.is (rw (c.as_mut_slice-args.ensures.value ∙ c.new-none.ensures) at
    (rw c.take_state-run.ensures.run at (c.pass_all-dispatched.ensures.runs scope held on_scope))))

pub returns-in-Enters-clause-runs : goal.returns-in-Enters-clause-runs
returns-in-Enters-clause-runs g c scope held on_scope =
    let rules : Rules _ _ = under g.H.Host.name_of c.args.self.now g.T.NativeTable.natives in
    let operation : Operation = operation_of c.args.operation.now in
    rw c.give_state.ensures.global
    (none_found rules operation on_scope c.pass_all-dispatched.result
    (state_of (g.T.NativeTable.state c.args.table.now) c.args.global.now scope held)
    (run_state (g.T.NativeTable.state c.pass_all-dispatched.new.table) c.pass_all-dispatched.new.global scope held)
    (session_rules g.H.Host.name_of g.T.NativeTable.natives c.args.self.now c.session-session.result
    c.session-session.ensures.limits c.session-session.ensures.offer)
    c.in-Enters.function
    (take (length c.new-none.result)
    (c.pass_all-dispatched.new.args ++ drop (length c.pass_all-dispatched.new.args) c.new-none.result)) c.in-Enters.is
    (none_left c.new-none.result c.pass_all-dispatched.new.args c.new-none.ensures)
    (rw (c.as_mut_slice-args.ensures.value ∙ c.new-none.ensures) at
    (rw c.take_state-run.ensures.run at (c.pass_all-dispatched.ensures.runs scope held on_scope))))

pub returns-in-Ended-clause-caches : goal.returns-in-Ended-clause-caches
returns-in-Ended-clause-caches g c =
    rw c.give_state.ensures.global (returned _ _ _ _ c.take_state-run.ensures.caches c.give_state.ensures.caches)

pub returns-in-Enters-clause-caches : goal.returns-in-Enters-clause-caches
returns-in-Enters-clause-caches g c =
    rw c.give_state.ensures.global (returned _ _ _ _ c.take_state-run.ensures.caches c.give_state.ensures.caches)
