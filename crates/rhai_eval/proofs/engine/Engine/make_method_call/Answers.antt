use Rattle.std.proofs.Common.{Some, None, Option, ap, ◌∙◌}
use Rattle.rhai_values.specs.declared.base.value.Dynamic.{Dynamic}
use Rattle.rhai_state.specs.declared.scope.Scope.{Scope}
use Rattle.rhai_state.specs.declared.state.GlobalRuntimeState.{GlobalRuntimeState}
use Rattle.rhai_spots.specs.Targets.{is_shared, shown}
use Rattle.rhai_machine.specs.language.Methods.{Method, method_core}
use Rattle.rhai_machine.specs.language.Runs.{Goes}
use Rattle.rhai_machine.specs.language.Frames.{core, ended_or_changed}
use Rattle.rhai_calls.specs.Targets.{on_target, value_walked_on}
use Rattle.rhai_lookups.proofs.Returned.{returned}
use Rattle.rhai_steps.specs.Callers.{state_of}
use Rattle.rhai_context.specs.declared.Context.{Context}
use Rattle.rhai_eval.specs.Ends.{EndsAlone}
use Rattle.rhai_eval.specs.Places.{with_place}
use Rattle.rhai_eval.specs.States.{under}
use Rattle.rhai_eval.proofs.OnTargets.{target_ends, target_kept}
use Rattle.rhai_eval.proofs.Public.{handed_apart, same_rules}
use Rattle.rhai_eval.proofs.engine.Engine.make_method_call.Given.{Over}
use Rattle.rhai_eval.proofs.engine.Engine.make_method_call.Goals as goal

-- the method, as it is called
abbrev method : (g : Over) → goal.After-call_args-2-1 g → Method
method g c = record {
  name = c.args.fn_name.now;
  at = c.args.pos;
  first_at = Some c.args.first_arg_pos;
  was_handle = is_shared c.args.target.now.part c.args.target.now.at.now;
}

-- its run, over what the caller handed in
method_runs : (g : Over) (c : goal.After-call_args-2-1 g) (scope : Scope g.row.H.Denot) (this : Option (Dynamic g.row.H.Denot)) →
    Goes (under g.H.Host.name_of c.args.self.now g.T.NativeTable.natives)
    (on_target (under g.H.Host.name_of c.args.self.now g.T.NativeTable.natives).setting (method g c) c.args.call_args.now
    c.args.target.now.part c.args.target.now.at.now) (state_of (g.T.NativeTable.state c.args.table.now) c.args.global.now scope
    (with_place this (Some (shown c.args.target.now.part c.args.target.now.at.now))))
    (core (ended_or_changed c.call_on_target-result.result))
    (state_of (g.T.NativeTable.state c.call_on_target-result.new.table) c.give_back.new.global scope
    (with_place this (Some (value_walked_on c.call_on_target-result.new.target.part c.call_on_target-result.new.target.at.now))))
method_runs g c scope this =
    let reads = same_rules g.H.Host.name_of g.T.NativeTable.natives c.args.self.now c.evaluator-evaluator.result
    c.evaluator-evaluator.ensures.limits c.evaluator-evaluator.ensures.offer in
    handed_apart reads (λ rules old new. Goes rules (on_target rules.setting (method g c) c.args.call_args.now c.args.target.now.part
    c.args.target.now.at.now) old (core (ended_or_changed c.call_on_target-result.result)) new) _ _ c.take-run.result
    c.call_on_target-result.new.run
    c.args.global.now
    c.give_back.new.global c.give_back.ensures.global scope scope
    (with_place this (Some (shown c.args.target.now.part c.args.target.now.at.now)))
    (with_place this (Some (value_walked_on c.call_on_target-result.new.target.part c.call_on_target-result.new.target.at.now)))
    (ap (λ (run : Context _). run.global) c.take-run.ensures.run) (c.call_on_target-result.ensures.runs scope (with_place this None))

pub returns-clause-ends : goal.returns-clause-ends
returns-clause-ends g c scope this = target_ends (under g.H.Host.name_of c.args.self.now g.T.NativeTable.natives) (method g c)
    c.args.call_args.now c.args.target.now.part c.args.target.now.at.now _ _ c.call_on_target-result.result (method_runs g c scope this)

pub returns-clause-kept : goal.returns-clause-kept
returns-clause-kept g c scope this = target_kept (under g.H.Host.name_of c.args.self.now g.T.NativeTable.natives) (method g c)
    c.args.call_args.now c.args.target.now.part c.args.target.now.at.now _ _ c.call_on_target-result.result (method_runs g c scope this)

pub returns-clause-shows : goal.returns-clause-shows
returns-clause-shows g c scope this memory =
    let reads = same_rules g.H.Host.name_of g.T.NativeTable.natives c.args.self.now c.evaluator-evaluator.result
    c.evaluator-evaluator.ensures.limits c.evaluator-evaluator.ensures.offer in
    handed_apart reads (λ rules old new. EndsAlone rules (method_core rules.setting (method g c) c.args.call_args.now
    (shown c.args.target.now.part c.args.target.now.at.now)) old new) _ _ c.take-run.result c.call_on_target-result.new.run
    c.args.global.now
    c.give_back.new.global c.give_back.ensures.global scope scope
    (with_place this (Some (shown c.args.target.now.part c.args.target.now.at.now)))
    (with_place this (Some (shown c.call_on_target-result.new.target.part c.call_on_target-result.new.target.at.now)))
    (ap (λ (run : Context _). run.global) c.take-run.ensures.run)
    (c.call_on_target-result.ensures.shows scope (with_place this None) memory)

pub returns-clause-search : goal.returns-clause-search
returns-clause-search g c = ap (λ (global : GlobalRuntimeState _). global.always_search_scope) c.give_back.ensures.global
    ∙ c.take-run.ensures.search

pub returns-clause-caches : goal.returns-clause-caches
returns-clause-caches g c =
    rw c.give_back.ensures.global (returned _ _ _ _ c.take-run.ensures.caches c.give_back.ensures.caches)
