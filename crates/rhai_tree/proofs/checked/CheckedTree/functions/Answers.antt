use Rattle.rhai_tree.proofs.checked.CheckedTree.functions.Goals as goal

pub returns-clause-value : goal.returns-clause-value
returns-clause-value c = cc
