use Rattle.rhai_machine_samples.proofs.ExportRuns.{exports}
use Rattle.rhai_machine_samples.proofs.sample_exports.Goals as goal

pub returns : goal.returns
returns g c = λ table host. exports table host
