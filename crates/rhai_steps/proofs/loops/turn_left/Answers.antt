use Rattle.std.proofs.Common.{◌∙◌, rules, sym}
use Rattle.rhai_steps.proofs.WaysOut.{passes_loop}
use Rattle.rhai_steps.proofs.loops.turn_left.Goals as goal

pub returns-then-is_break : goal.returns-then-is_break
returns-then-is_break g c = search rules

pub returns-else-is_break : goal.returns-else-is_break
returns-else-is_break g c = search rules

pub returns-in-Error : goal.returns-in-Error
returns-in-Error g c = passes_loop _ _ (sym c.in-Error.is ∙ c.way_out.ensures.leaves)
