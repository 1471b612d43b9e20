use Rattle.rhai_machine_samples.proofs.OverwriteRuns.{overwrites}
use Rattle.rhai_machine_samples.proofs.sample_overwrites.Goals as goal

pub returns : goal.returns
returns g c = λ table host index. overwrites table host index
