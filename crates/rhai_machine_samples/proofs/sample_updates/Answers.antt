use Rattle.rhai_machine_samples.proofs.AssignmentRuns.{updates}
use Rattle.rhai_machine_samples.proofs.sample_updates.Goals as goal

pub returns : goal.returns
returns g c = λ table host. updates table host
