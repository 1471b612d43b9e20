use Rattle.rhai_machine_samples.proofs.DataRuns.{arrays}
use Rattle.rhai_machine_samples.proofs.sample_arrays.Goals as goal

pub returns : goal.returns
returns g c = λ table host. arrays table host
