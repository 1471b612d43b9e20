use Rattle.std.proofs.Common.{◌≡◌, take}
use Rattle.rhai_tree.proofs.table.Table.with_values.Given as goal

abbrev pub invariant-loop-key : goal.invariant-loop-key
invariant-loop-key g l = l.keys ≡ take l.key-index l.self.0
