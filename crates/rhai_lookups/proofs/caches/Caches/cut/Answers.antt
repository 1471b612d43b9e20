use Rattle.std.proofs.Common.{subst}
use Rattle.rhai_lookups.specs.Levels.{AllFit}
use Rattle.rhai_lookups.proofs.caches.Caches.cut.Goals as goal

pub returns-in-Filled : goal.returns-in-Filled
returns-in-Filled g c = λ lists all. c.cut.ensures lists (subst (AllFit lists) c.in-Filled.is all)
