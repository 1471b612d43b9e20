use Rattle.std.proofs.Common.{None, false}
use Rattle.rhai_machine.specs.language.Activations.{NoThis}
use Rattle.rhai_machine.specs.language.Calls.{entry_of}
use Rattle.rhai_machine.specs.language.Frames.{EnterFunction}
use Rattle.rhai_machine.specs.language.Runs.{Runs}
use Rattle.rhai_lookups.proofs.Returned.{left_alone, returned}
use Rattle.rhai_steps.specs.Callers.{state_of}
use Rattle.rhai_eval.specs.States.{under}
use Rattle.rhai_eval.proofs.Dispatching.{ended_runs, entered_runs}
use Rattle.rhai_eval.proofs.Public.{handed_held, same_rules}
use Rattle.rhai_eval.proofs.engine.Engine.finish_on_scope.Goals as goal

pub returns-in-Ended-clause-runs : goal.returns-in-Ended-clause-runs
returns-in-Ended-clause-runs g c held = ended_runs (under g.H.Host.name_of c.args.self.now g.T.NativeTable.natives) false c.args.pos
    c.args.outcome c.in-Ended.result
    (state_of (g.T.NativeTable.state c.args.table.now) c.args.global.now c.args.scope.now held) c.in-Ended.is

pub returns-in-Enters-clause-runs : goal.returns-in-Enters-clause-runs
returns-in-Enters-clause-runs g c held =
    let reads = same_rules g.H.Host.name_of g.T.NativeTable.natives c.args.self.now c.evaluator-evaluator.result
    c.evaluator-evaluator.ensures.limits c.evaluator-evaluator.ensures.offer in
    let runs = handed_held reads (λ rules old new. Runs rules
    (EnterFunction (entry_of c.in-Enters.function NoThis false c.in-Enters.args c.args.pos old.local)) old c.finish-result.result
    new) (g.T.NativeTable.state c.args.table.now) (g.T.NativeTable.state c.enter_captured-done.new.table) c.take-run.result
    c.enter_captured-done.new.run c.args.global.now c.give_back.new.global c.give_back.ensures.global c.args.scope.now
    c.give_back.new.scope c.give_back.ensures.scope None held held c.take-run.ensures.run (
    (rw (← c.finish-result.ensures.came, c.as_mut_slice-values.ensures.value) at c.enter_captured-done.ensures.runs) held) in
    entered_runs (under g.H.Host.name_of c.args.self.now g.T.NativeTable.natives) false c.args.pos c.args.outcome c.in-Enters.function
    c.in-Enters.args (state_of (g.T.NativeTable.state c.args.table.now) c.args.global.now c.args.scope.now held)
    (state_of (g.T.NativeTable.state c.enter_captured-done.new.table) c.give_back.new.global c.give_back.new.scope held)
    c.finish-result.result c.tell_changed.result c.in-Enters.is c.tell_changed.ensures runs

pub returns-in-Ended-clause-caches : goal.returns-in-Ended-clause-caches
returns-in-Ended-clause-caches g c = left_alone _ _ c.requires.fit c.requires.right

pub returns-in-Enters-clause-caches : goal.returns-in-Enters-clause-caches
returns-in-Enters-clause-caches g c =
    rw c.give_back.ensures.global (returned _ _ _ _ c.take-run.ensures.caches c.give_back.ensures.caches)
