use Rattle.std.proofs.Common.{None, false, ap, refl, ◌∙◌}
use Rattle.rhai_state.specs.declared.state.GlobalRuntimeState.{GlobalRuntimeState}
use Rattle.rhai_machine.specs.language.Frames.{ended, Enter}
use Rattle.rhai_machine.specs.language.Runs.{Runs}
use Rattle.rhai_machine.specs.language.Script.{start_of_script, end_of_script}
use Rattle.rhai_machine.specs.machine.Memory.{Leads}
use Rattle.rhai_machine.specs.language.Language.{machine}
use Rattle.rhai_machine.specs.language.Setting.{cut}
use Rattle.rhai_laws.proofs.KeptLaws.{grown, names_begin, variables_stay}
use Rattle.rhai_laws.proofs.ScriptMemory.{runs_up_to_memory}
use Rattle.rhai_lookups.proofs.Returned.{returned}
use Rattle.rhai_steps.specs.Callers.{state_of}
use Rattle.rhai_steps.specs.States.{holding}
use Rattle.rhai_eval_steps.specs.Agreement.{SuitsNames}
use Rattle.rhai_eval_steps.proofs.NameLemmas.{suits_now}
use Rattle.rhai_eval.specs.States.{under}
use Rattle.rhai_eval.proofs.Public.{handed_free, same_rules}
use Rattle.rhai_eval.proofs.Scripts.{script_agrees, script_ends, script_goes, script_memory}
use Rattle.rhai_eval.proofs.engine.Engine.eval_global_statements.Given.{Over}
use Rattle.rhai_eval.proofs.engine.Engine.eval_global_statements.Goals as goal
use Rattle.rhai_eval_core.specs.States.{under as under_what_is_read}

-- the statements run, over what the caller handed in
statements_run : (g : Over) (c : goal.After-end_script g) →
    Runs (under g.H.Host.name_of c.args.self.now g.T.NativeTable.natives) (Enter c.args.tree.now.0 false)
    (state_of (g.T.NativeTable.state c.args.table.now) c.args.global.now c.args.scope.now (holding None))
    c.finish-outcome.result
    (state_of (g.T.NativeTable.state c.run_stmt_block-done.new.table) c.give_back.new.global c.give_back.new.scope (holding None))
statements_run g c =
    let reads = same_rules g.H.Host.name_of g.T.NativeTable.natives c.args.self.now c.evaluator-evaluator.result
    c.evaluator-evaluator.ensures.limits c.evaluator-evaluator.ensures.offer in
    let runs = rw (c.statements.ensures.value, ← c.finish-outcome.ensures.came) at c.run_stmt_block-done.ensures.runs in
    handed_free reads (λ r old new. Runs r (Enter c.args.tree.now.0 false) old c.finish-outcome.result new)
    (g.T.NativeTable.state c.args.table.now) (g.T.NativeTable.state c.run_stmt_block-done.new.table) c.take-run.result
    c.run_stmt_block-done.new.run c.args.global.now c.give_back.new.global c.give_back.ensures.global c.args.scope.now
    c.give_back.new.scope c.give_back.ensures.scope
    (grown (under_what_is_read g.H.Host.name_of c.evaluator-evaluator.result g.T.NativeTable.natives) (Enter c.args.tree.now.0 false)
    (ended c.finish-outcome.result) _ _ tt runs).bound None None refl refl c.take-run.ensures.run runs

-- and then the script
script_runs : (g : Over) (c : goal.After-end_script g) →
    Leads (machine (under g.H.Host.name_of c.args.self.now g.T.NativeTable.natives))
    (cut (under g.H.Host.name_of c.args.self.now g.T.NativeTable.natives))
    (start_of_script c.args.tree.now.0 c.args.map_exit_to_return_value
    (state_of (g.T.NativeTable.state c.args.table.now) c.args.global.now c.args.scope.now (holding None)))
    (end_of_script c.end_script.result
    (state_of (g.T.NativeTable.state c.run_stmt_block-done.new.table) c.give_back.new.global c.give_back.new.scope (holding None)))
script_runs g c = script_goes (under g.H.Host.name_of c.args.self.now g.T.NativeTable.natives) c.args.tree.now.0
    c.args.map_exit_to_return_value _ _ c.finish-outcome.result c.end_script.result (statements_run g c) c.end_script.ensures.value
    c.end_script.ensures.error

pub returns-clause-ends : goal.returns-clause-ends
returns-clause-ends g c = script_ends (under g.H.Host.name_of c.args.self.now g.T.NativeTable.natives) c.args.tree.now.0
    c.args.map_exit_to_return_value _ _ c.end_script.result (script_runs g c)

pub returns-clause-two_limits : goal.returns-clause-two_limits
returns-clause-two_limits g c = script_agrees (under g.H.Host.name_of c.args.self.now g.T.NativeTable.natives) c.args.tree.now.0
    c.args.map_exit_to_return_value _ _ c.end_script.result
    (script_ends (under g.H.Host.name_of c.args.self.now g.T.NativeTable.natives) c.args.tree.now.0 c.args.map_exit_to_return_value _ _
    c.end_script.result (script_runs g c))

pub returns-clause-up_to : goal.returns-clause-up_to
returns-clause-up_to g c = runs_up_to_memory (under g.H.Host.name_of c.args.self.now g.T.NativeTable.natives) (script_runs g c)

pub returns-clause-kept : goal.returns-clause-kept
returns-clause-kept g c = grown (under g.H.Host.name_of c.args.self.now g.T.NativeTable.natives) (Enter c.args.tree.now.0 false)
    (ended c.finish-outcome.result) _ _ tt (statements_run g c)

pub returns-clause-begins : goal.returns-clause-begins
returns-clause-begins g c = names_begin (under g.H.Host.name_of c.args.self.now g.T.NativeTable.natives) (Enter c.args.tree.now.0 false)
    (ended c.finish-outcome.result) _ _ tt (statements_run g c)

pub returns-clause-variables : goal.returns-clause-variables
returns-clause-variables g c = variables_stay (under g.H.Host.name_of c.args.self.now g.T.NativeTable.natives)
    (Enter c.args.tree.now.0 false) (ended c.finish-outcome.result) _ _ tt (statements_run g c)

pub returns-clause-search : goal.returns-clause-search
returns-clause-search g c = ap (λ (global : GlobalRuntimeState _). global.always_search_scope) c.give_back.ensures.global
    ∙ c.take-run.ensures.search

pub returns-clause-memory : goal.returns-clause-memory
returns-clause-memory g c = script_memory _ c.args.map_exit_to_return_value c.finish-outcome.result c.end_script.result
    (rw (c.statements.ensures.value, ← c.finish-outcome.ensures.came) at c.run_stmt_block-done.ensures.memory) c.end_script.ensures.value
    c.end_script.ensures.error

pub run_stmt_block-done-requires : goal.run_stmt_block-done-requires
unfolding SuitsNames
run_stmt_block-done-requires g c =
    record { resolves = rw c.statements.ensures.value (suits_now _ _ (c.statements.ensures.resolves _)) }

pub returns-clause-caches : goal.returns-clause-caches
returns-clause-caches g c =
    rw c.give_back.ensures.global (returned _ _ _ _ c.take-run.ensures.caches c.give_back.ensures.caches)
