use Rattle.rhai_machine.proofs.Runs.{charges_added_law}
use Rattle.rhai_machine.proofs.laws.charges_are_added.Goals as goal

pub returns : goal.returns
returns g c = charges_added_law g.L.Language.machine
