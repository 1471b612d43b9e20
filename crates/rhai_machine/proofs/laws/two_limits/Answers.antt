use Rattle.rhai_machine.proofs.Ends.{two_limits_law}
use Rattle.rhai_machine.proofs.laws.two_limits.Goals as goal

pub returns : goal.returns
returns g c = two_limits_law g.L.Language.machine g.L.Language.Refused
