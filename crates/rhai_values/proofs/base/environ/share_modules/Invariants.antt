use Rattle.std.specs.Prelude.{◌≡◌, ◌≤◌, ◌-◌, take, length}
use Rattle.rhai_values.proofs.base.environ.share_modules.Given as goal

abbrev pub invariant-modules : goal.invariant-modules
invariant-modules g l = (l.shared ≡ take l.at l.modules) × (l.at ≤ length l.modules)

abbrev pub decreases-modules : goal.decreases-modules
decreases-modules g l = length l.modules - l.at
