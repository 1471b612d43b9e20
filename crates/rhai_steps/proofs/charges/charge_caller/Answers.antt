use Rattle.std.proofs.Common.{refl, rules, arith}
use Rattle.rhai_steps.proofs.charges.charge_caller.Goals as goal

pub returns-then-is_spent-clause-full : goal.returns-then-is_spent-clause-full
returns-then-is_spent-clause-full g c = omega arith

pub returns-then-is_spent-clause-same : goal.returns-then-is_spent-clause-same
returns-then-is_spent-clause-same g c = refl

pub returns-clause-room : goal.returns-clause-room
returns-clause-room g c = search rules

pub returns-clause-charged : goal.returns-clause-charged
returns-clause-charged g c = refl
