use Rattle.std.proofs.Common.{◌≡◌, map, take}
use Rattle.rhai_library.specs.Library.{plain_function}
use Rattle.rhai_library.proofs.library_of.Given as goal

abbrev pub invariant-functions : goal.invariant-functions
invariant-functions g l = l.functions ≡ map plain_function (take l.function-index l.tree.1)
