use Rattle.rhai_state.proofs.scope.Scope.push_shared.Goals as goal

pub returns-clause-ok : goal.returns-clause-ok
returns-clause-ok g c = rw (c.set_access_mode.ensures, c.new-aliases.ensures) at c.push.ensures.ok

pub returns-clause-err : goal.returns-clause-err
returns-clause-err g c = c.push.ensures.err
