use Rattle.rhai_laws.proofs.MemoryLaws.{leaves_law}
use Rattle.rhai_laws.proofs.memory.out_of_memory_leaves_all.Goals as goal

pub returns : goal.returns
returns g c = leaves_law g.L.MayRunOut.machine g.L.MayRunOut.HasRunOut
