use Rattle.std.specs.Prelude.{◌≡◌, ◌≤◌, ◌-◌, drop, length}
use Rattle.rhai_functions.specs.Functions.{arity_in_modules}
use Rattle.rhai_functions.proofs.named.arity_named.Given as goal

abbrev pub invariant-modules : goal.invariant-modules
invariant-modules g l = (arity_in_modules l.name l.lib ≡ arity_in_modules l.name (drop l.at l.lib)) × (l.at ≤ length l.lib)

abbrev pub decreases-modules : goal.decreases-modules
decreases-modules g l = length l.lib - l.at
