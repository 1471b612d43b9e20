use Rattle.std.proofs.Common.{◌≡◌, true, take}
use Rattle.std.specs.List.{list_all}
use Rattle.rhai_values.specs.Cells.{cells_of}
use Rattle.rhai_state.specs.Deciding.{is_sealed}
use Rattle.rhai_state.proofs.fitting.are_sealed.Given as goal

abbrev pub invariant-loop-number : goal.invariant-loop-number
invariant-loop-number g l = list_all is_sealed (take l.number (cells_of l.global.cells)) ≡ true
