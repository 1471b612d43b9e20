use Rattle.std.specs.Prelude.{◌≡◌, drop}
use Rattle.rhai_tree.specs.Cases.{all_below}
use Rattle.rhai_check.proofs.check.cases.all_below.Given as goal

abbrev pub invariant-each : goal.invariant-each
invariant-each l = all_below l.count l.numbers ≡ all_below l.count (drop l.number-index l.numbers)
