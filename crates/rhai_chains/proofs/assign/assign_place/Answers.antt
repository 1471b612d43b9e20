use Rattle.rhai_chains.proofs.assign.assign_place.Goals as goal

pub returns-in-Property-clause-runs : goal.returns-in-Property-clause-runs
returns-in-Property-clause-runs g c scope held = rw c.in-Property.is (c.assign_property.ensures.runs scope held)

pub returns-in-Index-clause-runs : goal.returns-in-Index-clause-runs
returns-in-Index-clause-runs g c scope held = rw c.in-Index.is (c.assign_item.ensures.runs scope held)

pub returns-in-Method-clause-runs : goal.returns-in-Method-clause-runs
returns-in-Method-clause-runs g c scope held = rw c.in-Method.is (c.assign_item-in-Method.ensures.runs scope held)
