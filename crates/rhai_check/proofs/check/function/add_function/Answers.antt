use Rattle.rhai_check.proofs.check.function.add_function.Goals as goal

pub new-requires-clause-resolves : goal.new-requires-clause-resolves
new-requires-clause-resolves c = c.in_ok-check_def.ensures.resolved

pub returns-in-Ok-push-clause-exact : goal.returns-in-Ok-push-clause-exact
returns-in-Ok-push-clause-exact c = c.in_ok-check_def.ensures.exact
