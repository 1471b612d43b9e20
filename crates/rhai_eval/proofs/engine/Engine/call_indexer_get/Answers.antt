use Rattle.std.proofs.Common.{Some, None}
use Rattle.rhai_machine.specs.language.Setting.{Rules}
use Rattle.rhai_machine.specs.language.State.{State}
use Rattle.rhai_steps.specs.Callers.{state_of}
use Rattle.rhai_steps.specs.States.{state_of as run_state}
use Rattle.rhai_eval.specs.Places.{with_place}
use Rattle.rhai_eval.specs.States.{under}
use Rattle.rhai_eval.proofs.Public.{session_rules}
use Rattle.rhai_eval.proofs.Indexed.{got_ends, got_kept}
use Rattle.rhai_eval.proofs.engine.Engine.call_indexer_get.Goals as goal

pub returns-clause-ends : goal.returns-clause-ends
returns-clause-ends g c scope this =
    let rules : Rules _ _ = under g.H.Host.name_of c.args.self.now g.T.NativeTable.natives in
    let old : State _ _ = state_of (g.T.NativeTable.state c.args.table.now) c.args.global.now scope
    (with_place this (Some c.args.object.now)) in
    let new : State _ _ = run_state (g.T.NativeTable.state c.ask_get-result.new.table) c.ask_get-result.new.global scope
    (with_place this (Some c.ask_get-result.new.object)) in
    rw c.return_state.ensures
    (got_ends rules c.args.index.now c.args.pos old new c.ask_get-result.result
    (rw (session_rules g.H.Host.name_of g.T.NativeTable.natives c.args.self.now c.session-session.result
    c.session-session.ensures.limits c.session-session.ensures.offer) at
    (rw c.lend_state-run.ensures.run at (c.ask_get-result.ensures.runs scope (with_place this None)))))

pub returns-clause-kept : goal.returns-clause-kept
returns-clause-kept g c scope this =
    let rules : Rules _ _ = under g.H.Host.name_of c.args.self.now g.T.NativeTable.natives in
    let old : State _ _ = state_of (g.T.NativeTable.state c.args.table.now) c.args.global.now scope
    (with_place this (Some c.args.object.now)) in
    let new : State _ _ = run_state (g.T.NativeTable.state c.ask_get-result.new.table) c.ask_get-result.new.global scope
    (with_place this (Some c.ask_get-result.new.object)) in
    rw c.return_state.ensures
    (got_kept rules c.args.index.now c.args.pos old new c.ask_get-result.result
    (rw (session_rules g.H.Host.name_of g.T.NativeTable.natives c.args.self.now c.session-session.result
    c.session-session.ensures.limits c.session-session.ensures.offer) at
    (rw c.lend_state-run.ensures.run at (c.ask_get-result.ensures.runs scope (with_place this None)))))
