use Rattle.std.specs.Prelude.{◌≡◌, ◌≤◌, drop, None, length}
use Rattle.rhai_functions.specs.Functions.{in_imports}
use Rattle.rhai_functions.specs.Keys.{function_key_of}
use Rattle.rhai_functions.proofs.lookup.find_in_imports.Given as goal

abbrev pub invariant-imports : goal.invariant-imports
invariant-imports g l = (in_imports (function_key_of l.key) (drop l.at l.imports) ≡ None) × (l.at ≤ length l.imports)

abbrev pub decreases-imports : goal.decreases-imports
decreases-imports g l = l.at
