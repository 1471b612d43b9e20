use Rattle.std.specs.Prelude.{◌≡◌, ◌≤◌, ◌-◌, drop, length}
use Rattle.rhai_functions.specs.Functions.{in_named}
use Rattle.rhai_functions.specs.Keys.{function_key_of}
use Rattle.rhai_functions.proofs.lookup.find_in_named.Given as goal

abbrev pub invariant-modules : goal.invariant-modules
invariant-modules g l =
    (in_named (function_key_of l.key) l.modules ≡ in_named (function_key_of l.key) (drop l.at l.modules)) × (l.at ≤ length l.modules)

abbrev pub decreases-modules : goal.decreases-modules
decreases-modules g l = length l.modules - l.at
