use Rattle.std.proofs.Common.{rules}
use Rattle.rhai_steps.proofs.loops.choose_list.Goals as goal

pub returns : goal.returns
returns c = search rules
