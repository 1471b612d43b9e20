use Rattle.std.proofs.Common.{refl, ap, Err}
use Rattle.rhai_steps.proofs.replies.sized.Goals as goal

pub returns-in-None : goal.returns-in-None
returns-in-None g c = λ m. rw (← c.exceeds.ensures, c.in-None.is) refl

pub returns-in-Some : goal.returns-in-Some
returns-in-Some g c = λ m. rw (← c.exceeds.ensures, c.in-Some.is) (ap Err (c.data_too_large.ensures m))
