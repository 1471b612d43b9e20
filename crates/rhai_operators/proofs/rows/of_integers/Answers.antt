use Rattle.std.proofs.Common.{rules}
use Rattle.rhai_operators.proofs.rows.of_integers.Goals as goal

pub returns-in-ExclusiveRange : goal.returns-in-ExclusiveRange
returns-in-ExclusiveRange g c = search rules
