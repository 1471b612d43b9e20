use Rattle.rhai_state.proofs.scope.Scope.truncate_aliases.Goals as goal

pub returns : goal.returns
returns g c = rw c.at_mut-entry.ensures.value (cc)
