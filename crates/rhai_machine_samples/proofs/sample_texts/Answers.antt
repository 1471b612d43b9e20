use Rattle.rhai_machine_samples.proofs.DataRuns.{texts}
use Rattle.rhai_machine_samples.proofs.sample_texts.Goals as goal

pub returns : goal.returns
returns g c = λ table host. texts table host
