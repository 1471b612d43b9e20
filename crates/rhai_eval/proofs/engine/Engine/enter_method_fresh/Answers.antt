use Rattle.std.proofs.Common.{ap, true}
use Rattle.rhai_machine.specs.language.Activations.{TheFocus}
use Rattle.rhai_machine.specs.language.Calls.{entry_of}
use Rattle.rhai_machine.specs.language.Frames.{EnterFunction, ended_or_changed}
use Rattle.rhai_machine.specs.language.Runs.{Steps}
use Rattle.rhai_lookups.proofs.Returned.{returned}
use Rattle.rhai_steps.specs.OnFocus.{lending}
use Rattle.rhai_steps.specs.States.{local_of, state_of}
use Rattle.rhai_context.specs.declared.Context.{Context}
use Rattle.rhai_eval.proofs.Dispatching.{runs_unchanged}
use Rattle.rhai_eval.proofs.Public.{handed_apart, same_rules}
use Rattle.rhai_eval.proofs.engine.Engine.enter_method_fresh.Goals as goal
use Rattle.rhai_eval_core.specs.States.{under as under_what_is_read}

pub returns-clause-runs : goal.returns-clause-runs
returns-clause-runs g c scope held =
    let reads = same_rules g.H.Host.name_of g.T.NativeTable.natives c.args.self.now c.evaluator-evaluator.result
    c.evaluator-evaluator.ensures.limits c.evaluator-evaluator.ensures.offer in
    let runs = runs_unchanged (under_what_is_read g.H.Host.name_of c.evaluator-evaluator.result g.T.NativeTable.natives)
    (EnterFunction (entry_of c.args.function TheFocus true c.args.args c.args.pos (local_of c.take-run.result.global scope
    (lending held c.args.place.now))))
    (state_of (g.T.NativeTable.state c.args.table.now) c.take-run.result.global scope (lending held c.args.place.now))
    (state_of (g.T.NativeTable.state c.enter_on_focus-done.new.table) c.enter_on_focus-done.new.run.global scope
    (lending held c.enter_on_focus-done.new.focus))
    c.finish-result.result c.tell_changed.result c.tell_changed.ensures (
    (rw (← c.finish-result.ensures.came, c.as_mut_slice-values.ensures.value) at c.enter_on_focus-done.ensures.runs) scope held) in
    handed_apart reads (λ rules old new.
    Steps rules (EnterFunction (entry_of c.args.function TheFocus true c.args.args c.args.pos old.local)) old
    (ended_or_changed c.tell_changed.result) new)
    (g.T.NativeTable.state c.args.table.now) (g.T.NativeTable.state c.enter_on_focus-done.new.table) c.take-run.result
    c.enter_on_focus-done.new.run c.args.global.now c.give_back.new.global c.give_back.ensures.global scope scope
    (lending held c.args.place.now) (lending held c.enter_on_focus-done.new.focus)
    (ap (λ (run : Context _). run.global) c.take-run.ensures.run) runs

pub returns-clause-caches : goal.returns-clause-caches
returns-clause-caches g c =
    rw c.give_back.ensures.global (returned _ _ _ _ c.take-run.ensures.caches c.give_back.ensures.caches)
