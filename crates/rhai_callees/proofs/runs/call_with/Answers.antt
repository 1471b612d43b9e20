use Rattle.rhai_machine.specs.language.Runs.{Goes}
use Rattle.rhai_steps.specs.States.{holding}
use Rattle.rhai_callees.proofs.runs.call_with.Goals as goal

pub returns-clause-runs : goal.returns-clause-runs
unfolding Goes
returns-clause-runs g c on_scope k =
    (c.call_values.ensures.runs c.args.run.now.scope (holding c.args.run.now.this) on_scope
    k)
