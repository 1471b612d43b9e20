use Rattle.rhai_machine_samples.proofs.SampleRuns.{sums}
use Rattle.rhai_machine_samples.proofs.sample_sums.Goals as goal

pub returns : goal.returns
returns g c = λ table host. sums table host
