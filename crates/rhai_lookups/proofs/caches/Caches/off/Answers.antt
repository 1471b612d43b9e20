use Rattle.rhai_lookups.specs.Levels.{CachesFit}
use Rattle.rhai_lookups.proofs.caches.Caches.off.Goals as goal

pub returns-clause-fit : goal.returns-clause-fit
unfolding CachesFit
returns-clause-fit g c = λ lists. tt
