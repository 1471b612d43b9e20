use Rattle.std.specs.Prelude.{◌≡◌, ◌≤◌, ◌-◌, ◌++◌, take, length}
use Rattle.rhai_bodies.proofs.opening.add_imports.Given as goal

abbrev pub invariant-imports : goal.invariant-imports
invariant-imports g l = (l.lists ≡ (l.fn.lists.0, l.fn.lists.1 ++ take l.at l.more)) × (l.at ≤ length l.more)

abbrev pub decreases-imports : goal.decreases-imports
decreases-imports g l = length l.more - l.at
