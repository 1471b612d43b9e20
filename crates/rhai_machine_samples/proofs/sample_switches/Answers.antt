use Rattle.rhai_machine_samples.proofs.SwitchRuns.{switches}
use Rattle.rhai_machine_samples.proofs.sample_switches.Goals as goal

pub returns : goal.returns
returns g c = λ table host. switches table host
