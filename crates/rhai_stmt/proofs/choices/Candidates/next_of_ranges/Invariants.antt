use Rattle.std.specs.Prelude.{◌≡◌, length, Some}
use Rattle.rhai_stmt.specs.Candidates.{ranges_by}
use Rattle.rhai_stmt.proofs.choices.Candidates.next_of_ranges.Given as goal

abbrev pub invariant-each_range : goal.invariant-each_range
invariant-each_range l = record {
  numbers : l.self.numbers ≡ l.initial.self.numbers;
  integer : l.self.integer ≡ l.initial.self.integer;
  left : ranges_by (Some l.n) l.initial.self.ranges.now ≡ ranges_by (Some l.n) l.self.ranges.now;
}

abbrev pub decreases-each_range : goal.decreases-each_range
decreases-each_range l = length l.self.ranges.now
