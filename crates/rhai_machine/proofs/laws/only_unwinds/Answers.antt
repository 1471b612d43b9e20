use Rattle.rhai_machine.proofs.Limits.{only_unwinds_law}
use Rattle.rhai_machine.proofs.laws.only_unwinds.Goals as goal

pub returns : goal.returns
returns g c = only_unwinds_law g.L.Language.machine g.L.Language.Refused
