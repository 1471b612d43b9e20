use Rattle.rhai_machine_samples.proofs.LoopRuns.{ways_out}
use Rattle.rhai_machine_samples.proofs.sample_ways_out.Goals as goal

pub returns : goal.returns
returns g c = λ table host. ways_out table host
