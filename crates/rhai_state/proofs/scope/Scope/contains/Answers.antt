use Rattle.rhai_state.proofs.scope.Scope.contains.Goals as goal

pub returns : goal.returns
returns g c = cc
