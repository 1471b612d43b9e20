use Rattle.rhai_machine_samples.proofs.LoopRuns.{choices}
use Rattle.rhai_machine_samples.proofs.sample_choices.Goals as goal

pub returns : goal.returns
returns g c = λ table host. choices table host
