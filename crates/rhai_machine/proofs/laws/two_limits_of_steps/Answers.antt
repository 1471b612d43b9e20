use Rattle.rhai_machine.proofs.Ends.{two_limits_of_steps_law}
use Rattle.rhai_machine.proofs.laws.two_limits_of_steps.Goals as goal

pub returns : goal.returns
returns g c = two_limits_of_steps_law g.L.Language.machine g.L.Language.Refused
