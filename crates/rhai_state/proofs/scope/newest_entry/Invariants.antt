use Rattle.std.specs.Prelude.{◌≡◌, ◌≤◌, drop, None, length}
use Rattle.rhai_state.specs.Scope.{index_of}
use Rattle.rhai_state.proofs.scope.newest_entry.Given as goal

abbrev pub invariant-entries : goal.invariant-entries
invariant-entries g l = (index_of l.name (drop l.at l.entries) ≡ None) × (l.at ≤ length l.entries)

abbrev pub decreases-entries : goal.decreases-entries
decreases-entries g l = l.at
