use Rattle.std.specs.Prelude.{◌≡◌, drop}
use Rattle.rhai_tree.specs.Cases.{has_case}
use Rattle.rhai_check.proofs.check.cases.has_case.Given as goal

abbrev pub invariant-each : goal.invariant-each
invariant-each l = has_case l.value l.cases ≡ has_case l.value (drop l.case-index l.cases)
