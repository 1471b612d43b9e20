use Rattle.std.proofs.Common.{rules}
use Rattle.rhai_tree.proofs.table.Table.values.Goals as goal

pub returns-clause-value : goal.returns-clause-value
returns-clause-value g c = search rules

pub returns-clause-as_many : goal.returns-clause-as_many
returns-clause-as_many g c = search rules
