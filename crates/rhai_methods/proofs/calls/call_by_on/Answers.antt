use Rattle.rhai_methods.proofs.calls.call_by_on.Goals as goal

pub returns-in-Some-clause-runs : goal.returns-in-Some-clause-runs
returns-in-Some-clause-runs g c scope held =
    rw c.in-Some.is (c.number_on.ensures.runs scope held)

pub returns-in-None-clause-runs : goal.returns-in-None-clause-runs
returns-in-None-clause-runs g c scope held =
    rw c.in-None.is (rw c.natives_alone-alone.ensures at (c.call_named_on.ensures.runs scope held))
