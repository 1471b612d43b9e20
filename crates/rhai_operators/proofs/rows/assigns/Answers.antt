use Rattle.std.proofs.Common.{rules}
use Rattle.rhai_operators.proofs.rows.assigns.Goals as goal

pub returns-in-Int-Int : goal.returns-in-Int-Int
returns-in-Int-Int g c = search rules
