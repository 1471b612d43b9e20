use Rattle.rhai_machine_samples.proofs.FunctionRuns.{constants}
use Rattle.rhai_machine_samples.proofs.sample_constants.Goals as goal

pub returns : goal.returns
returns g c = λ table host. constants table host
