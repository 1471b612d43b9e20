use Rattle.rhai_machine_samples.proofs.ItemRuns.{items}
use Rattle.rhai_machine_samples.proofs.sample_items.Goals as goal

pub returns : goal.returns
returns g c = λ table host. items table host
