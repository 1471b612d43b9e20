use Rattle.std.proofs.Common.{◌≡◌, map, take}
use Rattle.rhai_values.specs.DataSize.{total, total_of, saturated}
use Rattle.rhai_values.proofs.base.size.+sizes.Given as goal

abbrev pub invariant-sum_sizes-loop-value : goal.invariant-sum_sizes-loop-value
invariant-sum_sizes-loop-value g l = l.held ≡ saturated (total_of (map total (take l.value-index l.values)))
