use Rattle.std.proofs.Common.{◌∙◌, Err, ap, refl, sym}
use Rattle.rhai_bodies.proofs.Ends.{moved_error, other_error}
use Rattle.rhai_bodies.proofs.closing.returned.Goals as goal

pub returns-in-Error-clause-outcome : goal.returns-in-Error-clause-outcome
returns-in-Error-clause-outcome g c = λ exit ends memory. ap Err (c.left_by_error-in-Error.ensures.error exit ends memory)
    ∙ sym (other_error exit c.args.error _ (sym c.in-Error.is ∙ c.way_out.ensures.leaves))

pub returns-in-Error-clause-at_once : goal.returns-in-Error-clause-at_once
returns-in-Error-clause-at_once g c = λ exit bare. moved_error (record exit { at = c.args.pos }) c.args.error _ _ c.args.pos
    (sym c.in-Error.is ∙ c.way_out.ensures.leaves) c.left_by_error-in-Error.ensures.at_once refl bare
