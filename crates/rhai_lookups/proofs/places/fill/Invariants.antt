use Rattle.rhai_lookups.proofs.places.fill.Given as goal

abbrev pub decreases-slots : goal.decreases-slots
decreases-slots l = l.left
