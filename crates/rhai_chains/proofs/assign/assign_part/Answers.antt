use Rattle.std.proofs.Common.{refl}
use Rattle.rhai_steps.specs.Follows.{FindsNoMemory}
use Rattle.rhai_chains.proofs.assign.assign_part.Goals as goal

pub returns-in-Err-clause-runs : goal.returns-in-Err-clause-runs
returns-in-Err-clause-runs g c scope held link = FindsNoMemory c.args.new.op.position refl refl
