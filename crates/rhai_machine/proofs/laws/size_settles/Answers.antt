use Rattle.rhai_machine.proofs.Ends.{size_settles_law}
use Rattle.rhai_machine.proofs.laws.size_settles.Goals as goal

pub returns : goal.returns
returns g c = size_settles_law g.L.Language.machine
