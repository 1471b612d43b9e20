use Rattle.rhai_machine_samples.proofs.AssignmentRuns.{assignments}
use Rattle.rhai_machine_samples.proofs.sample_assignments.Goals as goal

pub returns : goal.returns
returns g c = λ table host. assignments table host
