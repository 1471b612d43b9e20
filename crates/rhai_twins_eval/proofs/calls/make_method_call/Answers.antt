use Rattle.std.proofs.Common.{[], Some, None, ap, length, refl, replicate, sym, ◌∙◌}
use Rattle.rhai_machine.specs.language.Values.{unit_value as unit}
use Rattle.rhai_machine.specs.language.Methods.{Method, method_core}
use Rattle.rhai_state.specs.declared.scope.Scope.{Scope}
use Rattle.rhai_machine.specs.language.Setting.{Rules}
use Rattle.rhai_spots.specs.Targets.{is_shared, shown}
use Rattle.rhai_spots.specs.declared.part.Part.{Part}
use Rattle.rhai_values.specs.declared.base.value.Dynamic.{Dynamic}
use Rattle.rhai_calls.specs.Targets.{on_target}
use Rattle.rhai_eval.specs.Places.{with_place}
use Rattle.rhai_eval.specs.States.{under}
use Rattle.rhai_twins_eval.proofs.Once.{alone_once, changed_once}
use Rattle.rhai_twins_eval.proofs.Starts.{same_start}
use Rattle.rhai_twins_eval.proofs.calls.make_method_call.Goals as goal

pub returns-clause-run : goal.returns-clause-run
returns-clause-run g c = let one = c.make_method_call in let other = c.make_method_call-2 in let a = c.args in
    let rules : Rules _ _ = under g.H.Host.name_of a.engine.now g.T.NativeTable.natives in
    let method : Part _ → Dynamic _ → Method = λ part place.
    record { name = a.fn_name.now; at = a.pos; first_at = Some a.first_arg_pos; was_handle = is_shared part place } in
    λ scope this. changed_once rules _ _ _ _ _ _ one.result other.result
    (ap (λ x. on_target rules.setting (method a.target.now.part a.target.now.at.now) x a.target.now.part a.target.now.at.now)
    c.requires.call_args
    ∙ ap (λ x. on_target rules.setting (method x a.target.now.at.now) a.also_call_args.now x a.target.now.at.now) c.requires.part
    ∙ ap (λ x. on_target rules.setting (method a.also_target.now.part x) a.also_call_args.now a.also_target.now.part x) c.requires.place)
    (same_start c.requires.table c.requires.global refl
    (ap (λ x. with_place this (Some (shown x a.target.now.at.now))) c.requires.part
    ∙ ap (λ x. with_place this (Some (shown a.also_target.now.part x))) c.requires.place))
    (one.ensures.ends scope this) (other.ensures.ends scope this)

pub returns-clause-shown : goal.returns-clause-shown
returns-clause-shown g c r_has s_has = let one = c.make_method_call in let other = c.make_method_call-2 in let a = c.args in
    let rules : Rules _ _ = under g.H.Host.name_of a.engine.now g.T.NativeTable.natives in
    let method : Part _ → Dynamic _ → Method = λ part place.
    record { name = a.fn_name.now; at = a.pos; first_at = Some a.first_arg_pos; was_handle = is_shared part place } in
    let nothing : Scope _ = record { entries = []; spare = tt } in
    let same = alone_once rules _ _ _ _ _ _
    (ap (λ x. method_core rules.setting (method a.target.now.part a.target.now.at.now) x (shown a.target.now.part a.target.now.at.now))
    c.requires.call_args
    ∙ ap (λ x. method_core rules.setting (method x a.target.now.at.now) a.also_call_args.now (shown x a.target.now.at.now)) c.requires.part
    ∙ ap (λ x. method_core rules.setting (method a.also_target.now.part x) a.also_call_args.now (shown a.also_target.now.part x))
    c.requires.place)
    (same_start c.requires.table c.requires.global refl
    (ap (λ x. with_place None (Some (shown x a.target.now.at.now))) c.requires.part
    ∙ ap (λ x. with_place None (Some (shown a.also_target.now.part x))) c.requires.place))
    (one.ensures.shows nothing None r_has) (other.ensures.shows nothing None s_has) in
    let focus = ap (λ state. state.local.focus) same in cc

pub returns-clause-call_args : goal.returns-clause-call_args
returns-clause-call_args g c = c.make_method_call.ensures.args ∙ ap (λ xs. replicate (length xs) unit) c.requires.call_args
    ∙ sym c.make_method_call-2.ensures.args

pub returns-clause-on : goal.returns-clause-on
returns-clause-on g c same = c.make_method_call.ensures.caches.on ∙ same ∙ sym c.make_method_call-2.ensures.caches.on
