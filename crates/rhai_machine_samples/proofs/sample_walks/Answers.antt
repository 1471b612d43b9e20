use Rattle.rhai_machine_samples.proofs.WalkRuns.{walks}
use Rattle.rhai_machine_samples.proofs.sample_walks.Goals as goal

pub returns : goal.returns
returns g c = λ table host. walks table host
