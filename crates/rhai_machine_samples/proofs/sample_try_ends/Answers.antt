use Rattle.rhai_machine_samples.proofs.TryRuns.{try_ends}
use Rattle.rhai_machine_samples.proofs.sample_try_ends.Goals as goal

pub returns : goal.returns
returns g c = λ table host. try_ends table host
