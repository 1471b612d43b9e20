use Rattle.rhai_lookups.proofs.Stacks.{pushed_fit}
use Rattle.rhai_lookups.proofs.lists.Lists.begin_call.Goals as goal

pub invariant_of-self : goal.invariant_of-self
invariant_of-self g c =
    pushed_fit (c.self.inside.lib, c.self.inside.imports)
    c.push.result c.self.inside.caches c.push.new.self c.push.ensures.ok c.push.ensures.err
    c.self.invariant
