use Rattle.std.proofs.Common.{refl}
use Rattle.rhai_tree.proofs.fault.CheckFault.position.Goals as goal

pub returns-in-BadMapKey : goal.returns-in-BadMapKey
returns-in-BadMapKey c = rw c.in-BadMapKey.is refl
