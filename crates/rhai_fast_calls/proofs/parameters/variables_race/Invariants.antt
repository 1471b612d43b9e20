use Rattle.std.proofs.Common.{◌≡◌, drop, map}
use Rattle.rhai_values.specs.Cells.{cells_of}
use Rattle.rhai_state.specs.Scope.{value_of}
use Rattle.rhai_machine.specs.language.Calls.{races}
use Rattle.rhai_fast_calls.proofs.parameters.variables_race.Given as goal

abbrev pub invariant-entries : goal.invariant-entries
invariant-entries g l = races (cells_of l.cells) (map value_of l.variables)
    ≡ races (cells_of l.cells) (map value_of (drop l.entry-index l.variables))
