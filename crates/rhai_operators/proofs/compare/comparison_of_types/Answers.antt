use Rattle.std.proofs.Common.{rules}
use Rattle.rhai_operators.proofs.compare.comparison_of_types.Goals as goal

pub returns-in-EqualsTo : goal.returns-in-EqualsTo
returns-in-EqualsTo c = search rules
