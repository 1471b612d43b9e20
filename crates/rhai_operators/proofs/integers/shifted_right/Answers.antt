use Rattle.std.proofs.Common.{rules}
use Rattle.rhai_operators.proofs.integers.shifted_right.Goals as goal

pub returns-then-contains : goal.returns-then-contains
returns-then-contains c = search rules
