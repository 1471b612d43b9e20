use Rattle.rhai_lookups.proofs.lists.Lists.cut.Goals as goal

pub invariant_of-self : goal.invariant_of-self
invariant_of-self g c = rw (c.truncate.ensures, c.truncate-2.ensures) (c.cut.ensures (c.self.inside.lib, c.self.inside.imports)
    c.self.invariant)
