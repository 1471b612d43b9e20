use Rattle.rhai_machine_samples.proofs.TryRuns.{tries}
use Rattle.rhai_machine_samples.proofs.sample_tries.Goals as goal

pub returns : goal.returns
returns g c = λ table host. tries table host
