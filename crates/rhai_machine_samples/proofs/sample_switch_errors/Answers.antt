use Rattle.rhai_machine_samples.proofs.SwitchRuns.{switch_errors}
use Rattle.rhai_machine_samples.proofs.sample_switch_errors.Goals as goal

pub returns : goal.returns
returns g c = λ table host. switch_errors table host
