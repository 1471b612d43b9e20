use Rattle.rhai_machine.proofs.Limits.{follows_law}
use Rattle.rhai_machine.proofs.laws.follows.Goals as goal

pub returns : goal.returns
returns g c = follows_law g.L.Language.machine g.L.Language.Refused
