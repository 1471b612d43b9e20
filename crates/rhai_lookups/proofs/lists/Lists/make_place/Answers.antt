use Rattle.std.proofs.Common.{ap, sym, subst}
use Rattle.rhai_lookups.specs.Levels.{AllFit}
use Rattle.rhai_lookups.proofs.Stacks.{emptied_fit, pushed_fit}
use Rattle.rhai_lookups.proofs.lists.Lists.make_place.Goals as goal

pub invariant_of-self : goal.invariant_of-self
invariant_of-self g c =
    subst (AllFit (c.self.inside.lib, c.self.inside.imports)) (sym (ap (λ caches. caches.levels) c.renew.ensures))
    (emptied_fit (c.self.inside.lib, c.self.inside.imports) c.self.inside.caches.levels c.self.invariant)

pub invariant_of-self-2 : goal.invariant_of-self-2
invariant_of-self-2 g c =
    pushed_fit (c.self.inside.lib, c.self.inside.imports) c.push.result c.self.inside.caches c.push.new.self c.push.ensures.ok
    c.push.ensures.err c.self.invariant
