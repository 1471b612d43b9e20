use Rattle.std.specs.Prelude.{◌≡◌, ◌≤◌, ◌-◌, drop, length}
use Rattle.rhai_functions.specs.Functions.{first_named}
use Rattle.rhai_functions.proofs.named.first_named.Given as goal

abbrev pub invariant-functions : goal.invariant-functions
invariant-functions g l = (first_named l.name l.functions ≡ first_named l.name (drop l.at l.functions)) × (l.at ≤ length l.functions)

abbrev pub decreases-functions : goal.decreases-functions
decreases-functions g l = length l.functions - l.at
