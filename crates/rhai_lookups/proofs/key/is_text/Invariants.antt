use Rattle.std.specs.Prelude.{◌≡◌, ◌≤◌, drop, length}
use Rattle.rhai_lookups.proofs.key.is_text.Given as goal

abbrev pub invariant-bytes : goal.invariant-bytes
invariant-bytes l = (drop l.left l.own ≡ drop l.left l.wanted) × (l.left ≤ length l.own)

abbrev pub decreases-bytes : goal.decreases-bytes
decreases-bytes l = l.left
