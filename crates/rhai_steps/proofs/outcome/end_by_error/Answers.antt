use Rattle.std.proofs.Common.{◌∙◌, rules, sym}
use Rattle.rhai_steps.proofs.WaysOut.{passes_top}
use Rattle.rhai_steps.proofs.outcome.end_by_error.Goals as goal

pub returns-in-Return : goal.returns-in-Return
returns-in-Return g c = search rules

pub returns-in-Error : goal.returns-in-Error
returns-in-Error g c = passes_top _ _ _ (sym c.in-Error.is ∙ c.way_out.ensures.leaves)
