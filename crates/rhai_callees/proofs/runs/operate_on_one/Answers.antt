use Rattle.rhai_steps.specs.States.{holding}
use Rattle.rhai_callees.proofs.runs.operate_on_one.Goals as goal

pub returns-clause-runs : goal.returns-clause-runs
returns-clause-runs g c = c.operate_one.ensures.runs c.args.run.now.scope (holding c.args.run.now.this)
