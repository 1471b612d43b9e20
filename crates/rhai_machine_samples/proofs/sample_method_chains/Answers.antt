use Rattle.rhai_machine_samples.proofs.PartRuns.{method_chains}
use Rattle.rhai_machine_samples.proofs.sample_method_chains.Goals as goal

pub returns : goal.returns
returns g c = λ table host. method_chains table host
