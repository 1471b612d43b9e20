use Rattle.rhai_machine_samples.proofs.ItemRuns.{entries}
use Rattle.rhai_machine_samples.proofs.sample_entries.Goals as goal

pub returns : goal.returns
returns g c = λ table host. entries table host
