use Rattle.std.proofs.Common.{[], Some, None, ap, refl, ◌∙◌}
use Rattle.rhai_state.specs.declared.scope.Scope.{Scope}
use Rattle.rhai_spots.specs.Targets.{shown}
use Rattle.rhai_machine.specs.language.Setting.{Rules}
use Rattle.rhai_calls.specs.Targets.{value_walked_on}
use Rattle.rhai_eval.specs.Assigned.{target_assigned, value_assigned}
use Rattle.rhai_eval.specs.Places.{with_place}
use Rattle.rhai_eval.specs.States.{under}
use Rattle.rhai_twins_eval.proofs.Once.{alone_once, assignment_once}
use Rattle.rhai_twins_eval.proofs.Starts.{same_start}
use Rattle.rhai_twins_eval.proofs.calls.eval_op_assignment.Goals as goal

pub returns-clause-run : goal.returns-clause-run
returns-clause-run g c = let one = c.eval_op_assignment in let other = c.eval_op_assignment-2 in let a = c.args in
    let rules : Rules _ _ = under g.H.Host.name_of a.engine.now g.T.NativeTable.natives in
    λ scope this. assignment_once rules _ _ _ _ _ _ one.result other.result
    (ap (λ x. target_assigned rules.setting a.root.now (record { op = a.op_info.now; value = x }) a.target.now.part a.target.now.at.now)
    c.requires.new_val
    ∙ ap (λ x. target_assigned rules.setting a.root.now (record { op = a.op_info.now; value = a.also_new_val }) x a.target.now.at.now)
    c.requires.part
    ∙ ap (λ x. target_assigned rules.setting a.root.now (record { op = a.op_info.now; value = a.also_new_val }) a.also_target.now.part x)
    c.requires.place)
    (same_start c.requires.table c.requires.global refl
    (ap (λ x. with_place this (Some (value_walked_on x a.target.now.at.now))) c.requires.part
    ∙ ap (λ x. with_place this (Some (value_walked_on a.also_target.now.part x))) c.requires.place))
    (one.ensures.ends scope this) (other.ensures.ends scope this)

pub returns-clause-shown : goal.returns-clause-shown
returns-clause-shown g c r_has s_has = let one = c.eval_op_assignment in let other = c.eval_op_assignment-2 in let a = c.args in
    let rules : Rules _ _ = under g.H.Host.name_of a.engine.now g.T.NativeTable.natives in
    let nothing : Scope _ = record { entries = []; spare = tt } in
    let same = alone_once rules _ _ _ _ _ _
    (ap (λ x. value_assigned rules.setting a.root.now (record { op = a.op_info.now; value = x })) c.requires.new_val)
    (same_start c.requires.table c.requires.global refl
    (ap (λ x. with_place None (Some (shown x a.target.now.at.now))) c.requires.part
    ∙ ap (λ x. with_place None (Some (shown a.also_target.now.part x))) c.requires.place))
    (one.ensures.shows nothing None r_has) (other.ensures.shows nothing None s_has) in
    let focus = ap (λ state. state.local.focus) same in cc
