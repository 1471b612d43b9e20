use Rattle.std.proofs.Common.{◌≡◌, drop}
use Rattle.rhai_values.specs.Cells.{cells_of}
use Rattle.rhai_machine.specs.language.Calls.{races as races_in}
use Rattle.rhai_calls.proofs.dispatch.races.Given as goal

abbrev pub invariant-values : goal.invariant-values
invariant-values g l = races_in (cells_of l.cells) l.values ≡ races_in (cells_of l.cells) (drop l.value-index l.values)
