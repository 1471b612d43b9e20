use Rattle.rhai_machine_samples.proofs.SampleRuns.{blocks}
use Rattle.rhai_machine_samples.proofs.sample_blocks.Goals as goal

pub returns : goal.returns
returns g c = λ table host. blocks table host
