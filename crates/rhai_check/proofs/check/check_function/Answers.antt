use Rattle.rhai_check.proofs.check.check_function.Goals as goal

pub returns-clause-refused : goal.returns-clause-refused
returns-clause-refused c = tt

pub returns-clause-unformed : goal.returns-clause-unformed
returns-clause-unformed c = tt
