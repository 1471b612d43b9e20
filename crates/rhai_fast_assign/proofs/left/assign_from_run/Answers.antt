use Rattle.rhai_fast_assign.proofs.left.assign_from_run.Goals as goal

pub returns-clause-runs : goal.returns-clause-runs
returns-clause-runs g c held =
    rw c.settle.ensures ((rw c.take_value-value.ensures.taken at c.assign_variable-answer.ensures.runs) held)
