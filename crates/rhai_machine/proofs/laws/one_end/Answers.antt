use Rattle.rhai_machine.proofs.Runs.{one_end_law}
use Rattle.rhai_machine.proofs.laws.one_end.Goals as goal

pub returns : goal.returns
returns g c = one_end_law g.L.Language.machine
