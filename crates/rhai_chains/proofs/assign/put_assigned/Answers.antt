use Rattle.std.proofs.Common.{refl}
use Rattle.rhai_chains.specs.Assigned.{Stays}
use Rattle.rhai_chains.proofs.assign.put_assigned.Goals as goal

pub returns-in-Err : goal.returns-in-Err
returns-in-Err g c = Stays c.in-Err.refusal c.in-Err.ensures.err refl c.in-Err.ensures.refused
