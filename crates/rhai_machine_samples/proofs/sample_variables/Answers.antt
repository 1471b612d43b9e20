use Rattle.rhai_machine_samples.proofs.SampleRuns.{variables}
use Rattle.rhai_machine_samples.proofs.sample_variables.Goals as goal

pub returns : goal.returns
returns g c = λ table host. variables table host
