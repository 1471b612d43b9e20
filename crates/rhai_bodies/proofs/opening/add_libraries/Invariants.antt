use Rattle.std.specs.Prelude.{◌≡◌, ◌≤◌, ◌-◌, ◌++◌, take, length}
use Rattle.rhai_bodies.proofs.opening.add_libraries.Given as goal

abbrev pub invariant-modules : goal.invariant-modules
invariant-modules g l = (l.lists ≡ (l.fn.lists.0 ++ take l.at l.more, l.fn.lists.1)) × (l.at ≤ length l.more)

abbrev pub decreases-modules : goal.decreases-modules
decreases-modules g l = length l.more - l.at
