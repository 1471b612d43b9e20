use Rattle.rhai_machine.proofs.Ends.{always_ends_law}
use Rattle.rhai_machine.proofs.laws.always_ends.Goals as goal

pub returns : goal.returns
returns g c = always_ends_law g.L.Language.machine g.L.Language.Refused
