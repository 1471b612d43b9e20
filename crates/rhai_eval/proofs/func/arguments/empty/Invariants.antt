use Rattle.std.specs.Prelude.{◌≡◌, ◌≤◌, ◌-◌, ◌++◌, drop, length, replicate}
use Rattle.rhai_machine.specs.language.Values.{unit_value as unit}
use Rattle.rhai_eval.proofs.func.arguments.empty.Given as goal

abbrev pub invariant-each_place : goal.invariant-each_place
invariant-each_place g l = record {
  within : l.at ≤ length l.fn.places;
  length : length l.places ≡ length l.fn.places;
  left : l.places ≡ replicate l.at unit ++ drop l.at l.fn.places;
}

abbrev pub decreases-each_place : goal.decreases-each_place
decreases-each_place g l = length l.places - l.at
