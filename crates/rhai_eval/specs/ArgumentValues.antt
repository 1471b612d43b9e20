-- How the value of an argument is told.
use Rattle.std.specs.Prelude.{Result, Ok, Err}
use Rattle.rhai_tree.specs.declared.position.Position.{Position}
use Rattle.rhai_values.specs.declared.base.value.Dynamic.{Dynamic}
use Rattle.rhai_errors.specs.declared.error.EvalAltResult.{EvalAltResult}

-- the value of a result that says besides where it starts
abbrev pub value_with : {H : Type 0} → Result (Dynamic H × Position) (EvalAltResult H) → Result (Dynamic H) (EvalAltResult H)
value_with (Ok pair) = Ok pair.0
value_with (Err e) = Err e
