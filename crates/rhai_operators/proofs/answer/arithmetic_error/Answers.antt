use Rattle.std.proofs.Common.{refl}
use Rattle.rhai_operators.proofs.answer.arithmetic_error.Goals as goal

pub returns-in-Err-clause-unplaced : goal.returns-in-Err-clause-unplaced
returns-in-Err-clause-unplaced g c = refl
