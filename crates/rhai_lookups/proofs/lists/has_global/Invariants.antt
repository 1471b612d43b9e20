use Rattle.std.specs.Prelude.{◌≡◌, ◌≤◌, ◌-◌, drop, length}
use Rattle.rhai_lookups.specs.Lists.{any_global}
use Rattle.rhai_lookups.proofs.lists.has_global.Given as goal

abbrev pub invariant-functions : goal.invariant-functions
invariant-functions g l = (any_global l.functions ≡ any_global (drop l.at l.functions)) × (l.at ≤ length l.functions)

abbrev pub decreases-functions : goal.decreases-functions
decreases-functions g l = length l.functions - l.at
