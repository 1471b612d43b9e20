use Rattle.std.proofs.Common.{false, length, ap, refl, ◌∙◌}
use Rattle.std.specs.Option.{option_copied}
use Rattle.rhai_tree.specs.declared.function.ScriptFuncDef.{ScriptFuncDef}
use Rattle.rhai_state.specs.Scope.{entries_of}
use Rattle.rhai_machine.specs.language.Activations.{OwnThis}
use Rattle.rhai_steps.specs.States.{holding}
use Rattle.rhai_eval_steps.proofs.Chain.{on_done}
use Rattle.rhai_eval.specs.States.{under}
use Rattle.rhai_eval.proofs.Public.{same_rules}
use Rattle.rhai_eval.proofs.Variables.{left_variables, runs_left}
use Rattle.rhai_eval.proofs.engine.Engine.call_in_run.Goals as goal

pub returns-clause-runs : goal.returns-clause-runs
returns-clause-runs g c =
    let reads = same_rules g.H.Host.name_of g.T.NativeTable.natives c.args.self.now c.evaluator-evaluator.result
    c.evaluator-evaluator.ensures.limits c.evaluator-evaluator.ensures.offer in
    let slots = c.len-parameters.ensures ∙ ap (λ (def : ScriptFuncDef). length def.params) c.def.ensures.value in
    let left = left_variables c.args.rewind_scope (entries_of c.args.run.now.scope) c.len-before.result (length c.args.def.now.params)
    (entries_of c.run_body-done.new.run.scope) (entries_of c.leave_variables.new.scope) c.len-before.ensures
    c.leave_variables.ensures.all (rw slots at c.leave_variables.ensures.parameters) in
    runs_left (under g.H.Host.name_of c.args.self.now g.T.NativeTable.natives) c.args.def.now (option_copied c.args.env)
    c.args.rewind_scope c.args.args.now c.args.pos (g.T.NativeTable.state c.args.table.now)
    (g.T.NativeTable.state c.run_body-done.new.table) c.args.run.now c.run_body-done.new.run c.leave_variables.new.scope
    c.finish-result.result left
    (rw reads at (
    (rw (← c.finish-result.ensures.came) at c.run_body-done.ensures.runs) c.args.run.now.scope (holding c.args.run.now.this) OwnThis
    false refl refl))

pub returns-clause-args : goal.returns-clause-args
returns-clause-args g c memory = rw c.evaluator-evaluator.ensures.limits at (
    (rw (← c.finish-result.ensures.came) at c.run_body-done.ensures.args) memory)

pub returns-clause-charges : goal.returns-clause-charges
returns-clause-charges g c = on_done _ _ c.finish-result.ensures.done c.run_body-done.ensures.charges
