use Rattle.rhai_machine_samples.proofs.SampleRuns.{limits}
use Rattle.rhai_machine_samples.proofs.sample_limits.Goals as goal

pub returns : goal.returns
returns g c = λ table host. limits table host
