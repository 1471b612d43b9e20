use Rattle.rhai_names.proofs.variables.leave_list.Goals as goal

pub returns-clause-scope : goal.returns-clause-scope
returns-clause-scope g c = c.rewind.ensures
