use Rattle.rhai_machine_samples.proofs.ItemRuns.{shared_items}
use Rattle.rhai_machine_samples.proofs.sample_shared_items.Goals as goal

pub returns : goal.returns
returns g c = λ table host. shared_items table host
