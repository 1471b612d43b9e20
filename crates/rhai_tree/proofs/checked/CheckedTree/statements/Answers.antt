use Rattle.rhai_tree.proofs.checked.CheckedTree.statements.Goals as goal

pub returns-clause-value : goal.returns-clause-value
returns-clause-value c = cc
