use Rattle.std.specs.Prelude.{◌-◌, length}
use Rattle.rhai_lookups.proofs.places.slots_of.Given as goal

abbrev pub decreases-entries : goal.decreases-entries
decreases-entries g l = length l.entries - l.at
