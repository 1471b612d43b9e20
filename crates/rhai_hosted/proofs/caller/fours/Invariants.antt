use Rattle.std.specs.Prelude.{◌≤◌, ◌-◌, length}
use Rattle.rhai_hosted.proofs.caller.fours.Given as goal

-- no more than are wanted
abbrev pub invariant-pushes : goal.invariant-pushes
invariant-pushes l = length l.args ≤ l.count

abbrev pub decreases-pushes : goal.decreases-pushes
decreases-pushes l = l.count - length l.args
