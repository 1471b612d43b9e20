use Rattle.std.proofs.Common.{◌≡◌, map, take}
use Rattle.rhai_values.specs.Literals.{value_of_literal}
use Rattle.rhai_values.proofs.base.literal.+literals.Given as goal

abbrev pub invariant-literal_values-loop-literal : goal.invariant-literal_values-loop-literal
invariant-literal_values-loop-literal g l = l.values ≡ map value_of_literal (take l.literal-index l.literals)
