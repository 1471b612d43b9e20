use Rattle.std.specs.Prelude.{◌≡◌, length}
use Rattle.rhai_tree.specs.Cases.{all_differ}
use Rattle.rhai_check.proofs.check.cases.all_differ.Given as goal

abbrev pub invariant-each : goal.invariant-each
invariant-each l = all_differ l.cases ≡ all_differ l.rest

abbrev pub decreases-each : goal.decreases-each
decreases-each l = length l.rest
