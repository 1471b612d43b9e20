use Rattle.std.specs.Prelude.{◌≡◌, ◌≤◌, ◌-◌, drop, length}
use Rattle.rhai_functions.specs.Namespaces.{constant_among}
use Rattle.rhai_functions.proofs.paths.find_global_constant.Given as goal

abbrev pub invariant-modules : goal.invariant-modules
invariant-modules g l = (constant_among l.name l.modules ≡ constant_among l.name (drop l.at l.modules)) × (l.at ≤ length l.modules)

abbrev pub decreases-modules : goal.decreases-modules
decreases-modules g l = length l.modules - l.at
