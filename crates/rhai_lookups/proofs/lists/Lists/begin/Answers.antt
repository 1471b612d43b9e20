use Rattle.std.proofs.Common.{ap, sym, subst}
use Rattle.rhai_lookups.specs.Levels.{AllFit}
use Rattle.rhai_lookups.proofs.Stacks.{begun_fit}
use Rattle.rhai_lookups.proofs.lists.Lists.begin.Goals as goal

pub invariant_of-self : goal.invariant_of-self
invariant_of-self g c =
    subst (AllFit (c.self.inside.lib, c.self.inside.imports)) (sym (ap (λ caches. caches.levels) c.begin.ensures.levels))
    (begun_fit (c.self.inside.lib, c.self.inside.imports) c.self.inside.caches.levels c.self.invariant)
