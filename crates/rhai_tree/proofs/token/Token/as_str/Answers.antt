use Rattle.std.proofs.Common.{refl}
use Rattle.rhai_tree.proofs.token.Token.as_str.Goals as goal

pub returns-in-LessThanEqualsTo : goal.returns-in-LessThanEqualsTo
returns-in-LessThanEqualsTo c = rw c.in-LessThanEqualsTo.is refl
