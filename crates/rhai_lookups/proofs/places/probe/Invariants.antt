use Rattle.std.specs.Prelude.{◌<◌, length}
use Rattle.rhai_lookups.proofs.places.probe.Given as goal

abbrev pub invariant-slots : goal.invariant-slots
invariant-slots g l = l.at < length l.slots

abbrev pub decreases-slots : goal.decreases-slots
decreases-slots g l = l.left
