use Rattle.rhai_machine_samples.proofs.PartRuns.{parts}
use Rattle.rhai_machine_samples.proofs.sample_parts.Goals as goal

pub returns : goal.returns
returns g c = λ table host. parts table host
