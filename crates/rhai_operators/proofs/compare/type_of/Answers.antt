use Rattle.std.proofs.Common.{refl}
use Rattle.rhai_operators.proofs.compare.type_of.Goals as goal

pub returns-in-Cell : goal.returns-in-Cell
returns-in-Cell g c = rw c.in-Cell.is refl
