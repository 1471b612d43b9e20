use Rattle.std.specs.Prelude.{◌≡◌, ◌≤◌, drop, None, length}
use Rattle.rhai_state.specs.State.{import_of}
use Rattle.rhai_state.proofs.state.newest_import.Given as goal

abbrev pub invariant-imports : goal.invariant-imports
invariant-imports g l = (import_of l.name (drop l.at l.imports) ≡ None) × (l.at ≤ length l.imports)

abbrev pub decreases-imports : goal.decreases-imports
decreases-imports g l = l.at
