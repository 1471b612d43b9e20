use Rattle.rhai_machine_samples.proofs.LoopRuns.{loops}
use Rattle.rhai_machine_samples.proofs.sample_loops.Goals as goal

pub returns : goal.returns
returns g c = λ table host. loops table host
