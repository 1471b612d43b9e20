use Rattle.std.specs.Prelude.{◌≡◌, ◌≤◌, drop, None, length}
use Rattle.rhai_functions.specs.Namespaces.{imported}
use Rattle.rhai_functions.proofs.paths.find_import.Given as goal

abbrev pub invariant-imports : goal.invariant-imports
invariant-imports g l = (imported l.name (drop l.at l.imports) ≡ None) × (l.at ≤ length l.imports)

abbrev pub decreases-imports : goal.decreases-imports
decreases-imports g l = l.at
