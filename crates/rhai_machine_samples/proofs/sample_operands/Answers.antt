use Rattle.rhai_machine_samples.proofs.SampleRuns.{operands}
use Rattle.rhai_machine_samples.proofs.sample_operands.Goals as goal

pub returns : goal.returns
returns g c = λ table host. operands table host
