use Rattle.std.proofs.Common.{rules}
use Rattle.rhai_tree.proofs.table.Table.insert.Goals as goal

pub returns-in-Ok-clause-ok : goal.returns-in-Ok-clause-ok
returns-in-Ok-clause-ok g c = search rules

pub add-requires-clause-place : goal.add-requires-clause-place
add-requires-clause-place g c = search rules
