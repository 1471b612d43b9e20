use Rattle.rhai_twins.proofs.Found.{ends_once}
use Rattle.rhai_twins.proofs.target.indexed_end.Goals as goal

pub returns : goal.returns
returns g c = ends_once _
