use Rattle.rhai_lookups.specs.Levels.{CachesFit}
use Rattle.rhai_lookups.proofs.Stacks.{first_fits, later_fits}
use Rattle.rhai_lookups.proofs.caches.Caches.push.Goals as goal

pub returns-then-is_first-clause-fit : goal.returns-then-is_first-clause-fit
unfolding CachesFit
returns-then-is_first-clause-fit g c = λ lists.
    first_fits lists c.args.self.now c.begin-is_first.new.self c.begin-is_first.result c.begin-is_first.ensures.levels
    c.begin-is_first.ensures.added c.if-is_first.true

pub returns-in-Filled-clause-fit : goal.returns-in-Filled-clause-fit
unfolding CachesFit
returns-in-Filled-clause-fit g c = λ lists. later_fits lists c.push.result c.push.new.self c.push.ensures.top

pub returns-in-Off-clause-fit : goal.returns-in-Off-clause-fit
unfolding CachesFit
returns-in-Off-clause-fit g c = λ lists. rw c.in-Off.is tt
