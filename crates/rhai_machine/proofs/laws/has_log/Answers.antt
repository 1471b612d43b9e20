use Rattle.rhai_machine.proofs.Points.{logged_law}
use Rattle.rhai_machine.proofs.laws.has_log.Goals as goal

pub returns : goal.returns
returns g c = logged_law g.L.Language.machine
