use Rattle.rhai_lookups.proofs.lists.Lists.has.Goals as goal

pub invariant_of-self : goal.invariant_of-self
invariant_of-self g c = c.has_in.ensures.all c.self.invariant

pub returns-clause-found : goal.returns-clause-found
returns-clause-found g c = rw (← c.self.view_is) (c.has_in.ensures.found c.self.invariant)
