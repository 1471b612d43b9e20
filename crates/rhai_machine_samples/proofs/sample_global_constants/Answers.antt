use Rattle.rhai_machine_samples.proofs.PathRuns.{global_constants}
use Rattle.rhai_machine_samples.proofs.sample_global_constants.Goals as goal

pub returns : goal.returns
returns g c = λ table host. global_constants table host
