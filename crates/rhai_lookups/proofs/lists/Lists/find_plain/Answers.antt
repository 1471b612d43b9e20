use Rattle.rhai_lookups.proofs.lists.Lists.find_plain.Goals as goal

pub invariant_of-self : goal.invariant_of-self
invariant_of-self g c = c.plain_in.ensures.all c.self.invariant

pub returns-clause-found : goal.returns-clause-found
returns-clause-found g c = rw (← c.self.view_is) (c.plain_in.ensures.found c.self.invariant)

pub returns-clause-meaning : goal.returns-clause-meaning
returns-clause-meaning g c = c.plain_in.ensures.meaning c.self.invariant
