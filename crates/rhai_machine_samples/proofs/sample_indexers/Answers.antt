use Rattle.rhai_machine_samples.proofs.MemberRuns.{indexers}
use Rattle.rhai_machine_samples.proofs.sample_indexers.Goals as goal

pub returns : goal.returns
returns g c = λ table host. indexers table host
