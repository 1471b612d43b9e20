use Rattle.std.proofs.Common.{◌≡◌, map, take, true}
use Rattle.rhai_values.specs.LiteralEquals.{each, equals}
use Rattle.rhai_values.proofs.base.hashable.+equals.Given as goal

abbrev pub invariant-all_equal-loop-i : goal.invariant-all_equal-loop-i
invariant-all_equal-loop-i g l = each (map equals (take l.i l.literals)) (take l.i l.values) ≡ true
