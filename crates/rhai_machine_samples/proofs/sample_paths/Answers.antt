use Rattle.rhai_machine_samples.proofs.PathRuns.{paths}
use Rattle.rhai_machine_samples.proofs.sample_paths.Goals as goal

pub returns : goal.returns
returns g c = λ table host. paths table host
