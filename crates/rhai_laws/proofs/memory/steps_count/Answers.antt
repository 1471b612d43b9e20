use Rattle.rhai_laws.proofs.MemoryLaws.{counts_law}
use Rattle.rhai_laws.proofs.memory.steps_count.Goals as goal

pub returns : goal.returns
returns g c = counts_law g.L.MayRunOut.machine
