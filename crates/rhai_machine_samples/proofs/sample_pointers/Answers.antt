use Rattle.rhai_machine_samples.proofs.CallRuns.{pointers}
use Rattle.rhai_machine_samples.proofs.sample_pointers.Goals as goal

pub returns : goal.returns
returns g c = λ table host. pointers table host
