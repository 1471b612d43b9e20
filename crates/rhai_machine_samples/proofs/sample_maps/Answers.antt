use Rattle.rhai_machine_samples.proofs.DataRuns.{maps}
use Rattle.rhai_machine_samples.proofs.sample_maps.Goals as goal

pub returns : goal.returns
returns g c = λ table host. maps table host
