use Rattle.rhai_machine_samples.proofs.FunctionRuns.{objects}
use Rattle.rhai_machine_samples.proofs.sample_this.Goals as goal

pub returns : goal.returns
returns g c = λ table host. objects table host
