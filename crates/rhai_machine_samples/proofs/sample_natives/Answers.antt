use Rattle.rhai_machine_samples.proofs.SampleRuns.{called}
use Rattle.rhai_machine_samples.proofs.sample_natives.Goals as goal

pub returns : goal.returns
returns g c = λ table host. called table host
