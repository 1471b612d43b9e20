use Rattle.std.proofs.Common.{Some, None}
use Rattle.rhai_machine.specs.language.Frames.{NewValue}
use Rattle.rhai_machine.specs.language.Setting.{Rules}
use Rattle.rhai_machine.specs.language.State.{State}
use Rattle.rhai_steps.specs.Callers.{state_of}
use Rattle.rhai_steps.specs.States.{state_of as run_state}
use Rattle.rhai_calls.specs.Targets.{value_walked_on}
use Rattle.rhai_spots.specs.Targets.{shown}
use Rattle.rhai_eval.specs.Assigned.{target_assigned}
use Rattle.rhai_eval.specs.Places.{with_place}
use Rattle.rhai_eval.specs.States.{under}
use Rattle.rhai_eval.proofs.Public.{session_rules}
use Rattle.rhai_eval.proofs.Assigned.{alone_under, assigned_ends, assigned_kept, assigned_under}
use Rattle.rhai_eval.proofs.engine.Engine.eval_op_assignment.Goals as goal

pub returns-clause-ends : goal.returns-clause-ends
returns-clause-ends g c scope this =
    let rules : Rules _ _ = under g.H.Host.name_of c.args.self.now g.T.NativeTable.natives in
    let new_value : NewValue _ = record { op = c.args.op_info.now; value = c.args.new_val } in
    let old : State _ _ = state_of (g.T.NativeTable.state c.args.table.now) c.args.global.now scope
    (with_place this (Some (value_walked_on c.args.target.now.part c.args.target.now.at.now))) in
    let new : State _ _ = run_state (g.T.NativeTable.state c.assign_target-result.new.table) c.assign_target-result.new.global scope
    (with_place this (Some (value_walked_on c.assign_target-result.new.target.part c.assign_target-result.new.target.at.now))) in
    rw c.return_state.ensures
    (assigned_ends rules
    (target_assigned rules.setting c.args.root.now new_value c.args.target.now.part c.args.target.now.at.now) old new
    c.assign_target-result.result
    (assigned_under (session_rules g.H.Host.name_of g.T.NativeTable.natives c.args.self.now c.session-session.result
    c.session-session.ensures.limits c.session-session.ensures.offer)
    c.args.root.now new_value c.args.target.now.part c.args.target.now.at.now old new c.assign_target-result.result
    (rw c.lend_state-run.ensures.run at (c.assign_target-result.ensures.follows scope (with_place this None)))))

pub returns-clause-kept : goal.returns-clause-kept
returns-clause-kept g c scope this =
    let rules : Rules _ _ = under g.H.Host.name_of c.args.self.now g.T.NativeTable.natives in
    let new_value : NewValue _ = record { op = c.args.op_info.now; value = c.args.new_val } in
    let old : State _ _ = state_of (g.T.NativeTable.state c.args.table.now) c.args.global.now scope
    (with_place this (Some (value_walked_on c.args.target.now.part c.args.target.now.at.now))) in
    let new : State _ _ = run_state (g.T.NativeTable.state c.assign_target-result.new.table) c.assign_target-result.new.global scope
    (with_place this (Some (value_walked_on c.assign_target-result.new.target.part c.assign_target-result.new.target.at.now))) in
    rw c.return_state.ensures
    (assigned_kept rules c.args.root.now new_value c.args.target.now.part c.args.target.now.at.now old new
    c.assign_target-result.result
    (assigned_under (session_rules g.H.Host.name_of g.T.NativeTable.natives c.args.self.now c.session-session.result
    c.session-session.ensures.limits c.session-session.ensures.offer)
    c.args.root.now new_value c.args.target.now.part c.args.target.now.at.now old new c.assign_target-result.result
    (rw c.lend_state-run.ensures.run at (c.assign_target-result.ensures.follows scope (with_place this None)))))

pub returns-clause-shows : goal.returns-clause-shows
returns-clause-shows g c scope this memory =
    let new_value : NewValue _ = record { op = c.args.op_info.now; value = c.args.new_val } in
    rw c.return_state.ensures
    (alone_under (session_rules g.H.Host.name_of g.T.NativeTable.natives c.args.self.now c.session-session.result
    c.session-session.ensures.limits c.session-session.ensures.offer)
    c.args.root.now new_value
    (state_of (g.T.NativeTable.state c.args.table.now) c.args.global.now scope
    (with_place this (Some (shown c.args.target.now.part c.args.target.now.at.now))))
    (run_state (g.T.NativeTable.state c.assign_target-result.new.table) c.assign_target-result.new.global scope
    (with_place this (Some (shown c.assign_target-result.new.target.part c.assign_target-result.new.target.at.now))))
    (rw c.lend_state-run.ensures.run at (c.assign_target-result.ensures.shows scope (with_place this None) memory)))
