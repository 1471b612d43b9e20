use Rattle.std.proofs.Common.{◌≡◌, ◌++◌, map, take, drop}
use Rattle.rhai_values.specs.Modes.{with_mode}
use Rattle.rhai_values.proofs.base.+modes.Given as goal

abbrev pub invariant-modes::set_modes-loop-i : goal.invariant-modes::set_modes-loop-i
invariant-modes::set_modes-loop-i g l = l.items ≡ map (with_mode l.mode) (take l.i l.initial.items) ++ drop l.i l.initial.items
