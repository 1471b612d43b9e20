use Rattle.rhai_machine_samples.proofs.MethodRuns.{methods}
use Rattle.rhai_machine_samples.proofs.sample_methods.Goals as goal

pub returns : goal.returns
returns g c = λ table host. methods table host
