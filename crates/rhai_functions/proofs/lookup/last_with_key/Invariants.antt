use Rattle.std.specs.Prelude.{◌≡◌, ◌≤◌, drop, None, length}
use Rattle.rhai_functions.specs.Functions.{last_of}
use Rattle.rhai_functions.specs.Keys.{function_key_of}
use Rattle.rhai_functions.proofs.lookup.last_with_key.Given as goal

abbrev pub invariant-functions : goal.invariant-functions
invariant-functions g l = (last_of (function_key_of l.key) (drop l.at l.functions) ≡ None) × (l.at ≤ length l.functions)

abbrev pub decreases-functions : goal.decreases-functions
decreases-functions g l = l.at
