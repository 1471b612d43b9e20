use Rattle.std.proofs.Common.{None, false}
use Rattle.rhai_machine.specs.language.Runs.{Goes}
use Rattle.rhai_callees.proofs.runs.call_with_this.Goals as goal

pub returns-clause-runs : goal.returns-clause-runs
unfolding Goes
returns-clause-runs g c k =
    (c.call_on_this.ensures.runs c.args.run.now.scope None false k)
