use Rattle.rhai_machine_samples.proofs.PathRuns.{path_calls}
use Rattle.rhai_machine_samples.proofs.sample_path_calls.Goals as goal

pub returns : goal.returns
returns g c = λ table host. path_calls table host
