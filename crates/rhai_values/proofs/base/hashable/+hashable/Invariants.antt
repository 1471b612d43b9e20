use Rattle.std.proofs.Common.{◌≡◌, map, take, true}
use Rattle.rhai_values.specs.Hashable.{all_of, is_hashable}
use Rattle.rhai_values.proofs.base.hashable.+hashable.Given as goal

abbrev pub invariant-all_are_hashable-loop-value : goal.invariant-all_are_hashable-loop-value
invariant-all_are_hashable-loop-value g l = all_of (map is_hashable (take l.value-index l.values)) ≡ true
