use Rattle.rhai_chains.proofs.ends.end_member.Goals as goal

pub returns-in-Some-clause-runs : goal.returns-in-Some-clause-runs
returns-in-Some-clause-runs g c scope held link rest all in_place =
    rw (c.in-Some.is, c.settle_changed.ensures) (c.assign_member-assigned.ensures.runs scope held)

pub returns-in-None-clause-runs : goal.returns-in-None-clause-runs
returns-in-None-clause-runs g c scope held link rest all in_place =
    rw (c.in-None.is, c.settle_changed-in-None.ensures) (c.get_member-got.ensures.runs scope held)
