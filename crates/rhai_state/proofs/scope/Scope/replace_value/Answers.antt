use Rattle.rhai_state.proofs.scope.Scope.replace_value.Goals as goal

pub returns-clause-before : goal.returns-clause-before
returns-clause-before g c = rw c.at_mut-entry.ensures.value (cc)

pub returns-clause-after : goal.returns-clause-after
returns-clause-after g c = rw c.at_mut-entry.ensures.value (cc)
