use Rattle.rhai_lookups.proofs.lists.Lists.look_up.Goals as goal

pub invariant_of-self : goal.invariant_of-self
invariant_of-self g c = c.look_up.ensures.all c.self.invariant

pub returns-clause-kept : goal.returns-clause-kept
returns-clause-kept g c = rw (← c.self.view_is) (c.look_up.ensures.kept c.self.invariant)
