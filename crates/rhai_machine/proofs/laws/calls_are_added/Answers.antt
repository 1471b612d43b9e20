use Rattle.rhai_machine.proofs.Runs.{calls_added_law}
use Rattle.rhai_machine.proofs.laws.calls_are_added.Goals as goal

pub returns : goal.returns
returns g c = calls_added_law g.L.Language.machine
