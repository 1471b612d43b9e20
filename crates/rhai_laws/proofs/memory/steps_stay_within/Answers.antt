use Rattle.rhai_laws.proofs.MemoryLaws.{within_law}
use Rattle.rhai_laws.proofs.memory.steps_stay_within.Goals as goal

pub returns : goal.returns
returns g c = within_law g.L.MayRunOut.machine
