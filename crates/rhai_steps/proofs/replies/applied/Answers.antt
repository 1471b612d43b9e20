use Rattle.std.proofs.Common.{rules}
use Rattle.rhai_steps.proofs.replies.applied.Goals as goal

pub returns-in-Ok : goal.returns-in-Ok
returns-in-Ok g c = search rules
