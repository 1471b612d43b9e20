use Rattle.std.proofs.Common.{rules}
use Rattle.rhai_steps.proofs.loops.do_next.Goals as goal

pub returns-then-goes_on : goal.returns-then-goes_on
returns-then-goes_on g c = search rules

pub returns-else-goes_on : goal.returns-else-goes_on
returns-else-goes_on g c = search rules
