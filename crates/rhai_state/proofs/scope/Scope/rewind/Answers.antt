use Rattle.rhai_state.proofs.scope.Scope.rewind.Goals as goal

pub returns : goal.returns
returns g c = c.truncate.ensures
