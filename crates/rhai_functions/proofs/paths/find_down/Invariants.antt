use Rattle.std.specs.Prelude.{◌≡◌, drop, Some}
use Rattle.rhai_functions.specs.Namespaces.{down}
use Rattle.rhai_functions.proofs.paths.find_down.Given as goal

abbrev pub invariant-path : goal.invariant-path
invariant-path g l = down (drop l.name-index l.path) (Some l.within) ≡ down l.path (Some l.from)
