use Rattle.std.proofs.Common.{rules}
use Rattle.rhai_operators.proofs.integers.quotient.Goals as goal

pub returns : goal.returns
returns c = search rules
