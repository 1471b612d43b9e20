use Rattle.rhai_laws.proofs.MemoryLaws.{up_to_law}
use Rattle.rhai_laws.proofs.memory.steps_up_to_memory.Goals as goal

pub returns : goal.returns
returns g c = up_to_law g.L.MayRunOut.machine g.L.MayRunOut.HasRunOut
