use Rattle.std.proofs.Common.{rules}
use Rattle.rhai_operators.proofs.integers.power.Goals as goal

pub returns-in-Ok : goal.returns-in-Ok
returns-in-Ok c = search rules
