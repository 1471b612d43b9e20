use Rattle.std.specs.Prelude.{◌≡◌, drop}
use Rattle.rhai_tree.specs.Cases.{are_cases}
use Rattle.rhai_check.proofs.check.cases.are_cases.Given as goal

abbrev pub invariant-each : goal.invariant-each
invariant-each l = are_cases l.count l.cases ≡ are_cases l.count (drop l.case-index l.cases)
