-- The numbers of the results that a value leads to and that are left to be tried.
use Rattle.std.specs.Prelude.{ℕ, ℤ, List, [], ◌++◌, Option, Some, None}
use Rattle.rhai_tree.specs.declared.expr.RangeCase.{RangeCase}
use Rattle.rhai_machine.specs.language.Cases.{in_ranges}
use Rattle.rhai_stmt.specs.declared.choices.Candidates.{Candidates}

-- the numbers of ranges in which a value lies, which is so of an integer alone
abbrev pub ranges_by : Option ℤ → List RangeCase → List ℕ
ranges_by (Some n) ranges = in_ranges n ranges
ranges_by None ranges = []

-- the numbers that are left to be tried: those of the case, and then those of the ranges
abbrev pub numbers_left : Candidates → List ℕ
numbers_left left = left.numbers.now ++ ranges_by left.integer left.ranges.now
