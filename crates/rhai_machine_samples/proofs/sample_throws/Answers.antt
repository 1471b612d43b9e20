use Rattle.rhai_machine_samples.proofs.TryRuns.{throws}
use Rattle.rhai_machine_samples.proofs.sample_throws.Goals as goal

pub returns : goal.returns
returns g c = λ table host. throws table host
