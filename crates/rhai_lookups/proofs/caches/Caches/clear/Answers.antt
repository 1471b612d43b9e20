use Rattle.rhai_lookups.specs.Levels.{CachesFit}
use Rattle.rhai_lookups.proofs.caches.Caches.clear.Goals as goal

pub returns-in-Empty-clause-fit : goal.returns-in-Empty-clause-fit
unfolding CachesFit
returns-in-Empty-clause-fit g c = λ lists. rw c.in-Empty.is tt

pub returns-in-Off-clause-fit : goal.returns-in-Off-clause-fit
unfolding CachesFit
returns-in-Off-clause-fit g c = λ lists. rw c.in-Off.is tt

pub returns-clause-fit : goal.returns-clause-fit
unfolding CachesFit
returns-clause-fit g c = λ lists. rw c.replace.ensures.after tt
