use Rattle.rhai_machine.proofs.Limits.{without_limit_law}
use Rattle.rhai_machine.proofs.laws.without_limit.Goals as goal

pub returns : goal.returns
returns g c = without_limit_law g.L.Language.machine g.L.Language.Refused
