use Rattle.std.proofs.Common.{refl}
use Rattle.rhai_places.proofs.errors.refusal_error.Goals as goal

pub returns-in_ok-new-in-ArrayBounds : goal.returns-in_ok-new-in-ArrayBounds
returns-in_ok-new-in-ArrayBounds g c = rw (c.in-ArrayBounds.is, c.in_ok-new-in-ArrayBounds.ensures) refl
