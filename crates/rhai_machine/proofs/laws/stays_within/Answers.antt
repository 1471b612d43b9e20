use Rattle.rhai_machine.proofs.Runs.{stays_within_law}
use Rattle.rhai_machine.proofs.laws.stays_within.Goals as goal

pub returns : goal.returns
returns g c = stays_within_law g.L.Language.machine
