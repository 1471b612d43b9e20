use Rattle.rhai_machine.proofs.Runs.{enough_law}
use Rattle.rhai_machine.proofs.laws.is_enough.Goals as goal

pub returns : goal.returns
returns g c = enough_law g.L.Language.machine
