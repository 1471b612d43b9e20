use Rattle.rhai_laws.proofs.MemoryLaws.{keeps_law}
use Rattle.rhai_laws.proofs.memory.steps_keep.Goals as goal

pub returns : goal.returns
returns g c = keeps_law g.L.MayRunOut.machine g.L.MayRunOut.Relation
