use Rattle.std.specs.Prelude.{◌≡◌, ◌≤◌, ◌-◌, take, length}
use Rattle.rhai_values.proofs.base.environ.share_imports.Given as goal

abbrev pub invariant-imports : goal.invariant-imports
invariant-imports g l = (l.shared ≡ take l.at l.imports) × (l.at ≤ length l.imports)

abbrev pub decreases-imports : goal.decreases-imports
decreases-imports g l = length l.imports - l.at
