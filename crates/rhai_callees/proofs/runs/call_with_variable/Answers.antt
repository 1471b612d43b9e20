use Rattle.std.proofs.Common.{arith, false}
use Rattle.rhai_machine.specs.language.Runs.{Goes}
use Rattle.rhai_steps.specs.States.{holding}
use Rattle.rhai_callees.proofs.runs.call_with_variable.Goals as goal

pub call_on_variable-requires : goal.call_on_variable-requires
call_on_variable-requires g c = (omega arith, c.requires)

pub returns-clause-runs : goal.returns-clause-runs
unfolding Goes
returns-clause-runs g c k =
    (c.call_on_variable.ensures.runs (holding c.args.run.now.this) false k)
