use Rattle.rhai_machine_samples.proofs.CallRuns.{calls}
use Rattle.rhai_machine_samples.proofs.sample_calls.Goals as goal

pub returns : goal.returns
returns g c = λ table host. calls table host
