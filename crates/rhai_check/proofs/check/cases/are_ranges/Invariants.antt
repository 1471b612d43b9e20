use Rattle.std.specs.Prelude.{◌≡◌, drop}
use Rattle.rhai_tree.specs.Cases.{are_ranges}
use Rattle.rhai_check.proofs.check.cases.are_ranges.Given as goal

abbrev pub invariant-each : goal.invariant-each
invariant-each l = are_ranges l.count l.ranges ≡ are_ranges l.count (drop l.range-index l.ranges)
