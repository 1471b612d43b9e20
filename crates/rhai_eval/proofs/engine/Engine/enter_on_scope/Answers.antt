use Rattle.std.proofs.Common.{None, false}
use Rattle.rhai_machine.specs.language.Activations.{TheFocus}
use Rattle.rhai_machine.specs.language.Calls.{entry_of}
use Rattle.rhai_machine.specs.language.Frames.{EnterFunction, ended_or_changed}
use Rattle.rhai_machine.specs.language.Runs.{Steps}
use Rattle.rhai_lookups.proofs.Returned.{returned}
use Rattle.rhai_steps.specs.OnFocus.{lending}
use Rattle.rhai_steps.specs.States.{local_of, state_of}
use Rattle.rhai_eval.proofs.Dispatching.{runs_unchanged}
use Rattle.rhai_eval.proofs.Public.{handed_held, same_rules}
use Rattle.rhai_eval.proofs.engine.Engine.enter_on_scope.Goals as goal
use Rattle.rhai_eval_core.specs.States.{under as under_what_is_read}

pub returns-clause-runs : goal.returns-clause-runs
returns-clause-runs g c held =
    let reads = same_rules g.H.Host.name_of g.T.NativeTable.natives c.args.self.now c.evaluator-evaluator.result
    c.evaluator-evaluator.ensures.limits c.evaluator-evaluator.ensures.offer in
    let runs = runs_unchanged (under_what_is_read g.H.Host.name_of c.evaluator-evaluator.result g.T.NativeTable.natives)
    (EnterFunction (entry_of c.args.function TheFocus false c.args.args c.args.pos (local_of c.take-run.result.global
    c.take-run.result.scope (lending held c.args.place.now))))
    (state_of (g.T.NativeTable.state c.args.table.now) c.take-run.result.global c.take-run.result.scope (lending held c.args.place.now))
    (state_of (g.T.NativeTable.state c.enter_with_this-result.new.table) c.enter_with_this-result.new.run.global
    c.enter_with_this-result.new.run.scope (lending held c.enter_with_this-result.new.focus))
    c.enter_with_this-result.result c.tell_changed.result c.tell_changed.ensures (c.enter_with_this-result.ensures.runs held) in
    handed_held reads (λ rules old new.
    Steps rules (EnterFunction (entry_of c.args.function TheFocus false c.args.args c.args.pos old.local)) old
    (ended_or_changed c.tell_changed.result) new)
    (g.T.NativeTable.state c.args.table.now) (g.T.NativeTable.state c.enter_with_this-result.new.table) c.take-run.result
    c.enter_with_this-result.new.run c.args.global.now c.give_back.new.global c.give_back.ensures.global c.args.scope.now
    c.give_back.new.scope c.give_back.ensures.scope None (lending held c.args.place.now)
    (lending held c.enter_with_this-result.new.focus) c.take-run.ensures.run runs

pub returns-clause-caches : goal.returns-clause-caches
returns-clause-caches g c =
    rw c.give_back.ensures.global (returned _ _ _ _ c.take-run.ensures.caches c.give_back.ensures.caches)
