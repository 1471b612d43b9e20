use Rattle.std.proofs.Common.{refl}
use Rattle.rhai_errors.proofs.error.EvalAltResult.position.Goals as goal

pub returns-in-LoopBreak : goal.returns-in-LoopBreak
returns-in-LoopBreak g c = rw c.in-LoopBreak.is refl
