use Rattle.std.proofs.Common.{◌≡◌, true, flat_map, take}
use Rattle.rhai_values.specs.Cells.{cells_of}
use Rattle.rhai_state.specs.Deciding.{are_there}
use Rattle.rhai_state.specs.Reached.{cell_holds}
use Rattle.rhai_state.proofs.fitting.cells_fit.Given as goal

abbrev pub invariant-loop-number : goal.invariant-loop-number
invariant-loop-number g l = are_there l.global (flat_map cell_holds (take l.number (cells_of l.global.cells))) ≡ true
