use Rattle.rhai_machine_samples.proofs.WalkRuns.{walk_ends}
use Rattle.rhai_machine_samples.proofs.sample_walk_ends.Goals as goal

pub returns : goal.returns
returns g c = λ table host. walk_ends table host
