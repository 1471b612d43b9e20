use Rattle.rhai_methods.proofs.calls.call_by_itself.Goals as goal

pub returns-in-Some-clause-runs : goal.returns-in-Some-clause-runs
returns-in-Some-clause-runs g c scope held =
    rw (c.in-Some.is, c.tell_changed.ensures) (c.call_number_by_itself-result.ensures.runs scope held)

pub returns-in-None-clause-runs : goal.returns-in-None-clause-runs
returns-in-None-clause-runs g c scope held =
    rw c.in-None.is (c.call_named_by_itself.ensures.runs scope held)
