use Rattle.rhai_laws.proofs.MemoryLaws.{straight_law}
use Rattle.rhai_laws.proofs.memory.steps_are_straight.Goals as goal

pub returns : goal.returns
returns g c = straight_law g.L.MayRunOut.machine g.L.MayRunOut.HasRunOut
