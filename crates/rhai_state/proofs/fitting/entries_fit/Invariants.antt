use Rattle.std.proofs.Common.{◌≡◌, true, flat_map, take}
use Rattle.rhai_state.specs.Deciding.{are_there}
use Rattle.rhai_state.specs.Reached.{entry_holds}
use Rattle.rhai_state.proofs.fitting.entries_fit.Given as goal

abbrev pub invariant-loop-entry : goal.invariant-loop-entry
invariant-loop-entry g l = are_there l.global (flat_map entry_holds (take l.entry-index l.entries)) ≡ true
