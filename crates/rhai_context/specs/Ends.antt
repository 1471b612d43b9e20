-- How a part of a run ended, from what stands in the run.
use Rattle.std.specs.Prelude.{Bool, true, false, Option, Some, None, Result, Ok, Err}
use Rattle.rhai_tree.specs.Position.{none}
use Rattle.rhai_values.specs.declared.base.value.Dynamic.{Dynamic}
use Rattle.rhai_values.specs.declared.base.value.Union.TheVariants as value
use Rattle.rhai_values.specs.Copy.{plain}
use Rattle.rhai_errors.specs.declared.error.EvalAltResult.{EvalAltResult}
use Rattle.rhai_errors.specs.declared.error.EvalAltResult.TheVariants as error

module _ {H : Type 0} where
  -- `()`, which may be changed
  abbrev pub unit : Dynamic H
  unit = plain value.Unit

  -- the error that a run stopped with
  abbrev pub error_in : Option (EvalAltResult H) → EvalAltResult H
  error_in (Some e) = e
  error_in None = error.ErrorOutOfMemory none

  -- how a part ended: where it went well what it made, and else its error
  abbrev pub came : {V : Type 0} → (well : Bool) → V → Option (EvalAltResult H) → Result V (EvalAltResult H)
  came true v e = Ok v
  came false v e = Err (error_in e)

  -- how a test ended: what it says, or its error
  abbrev pub came_test : (holds : Option Bool) → Option (EvalAltResult H) → Result Bool (EvalAltResult H)
  came_test (Some holds) e = Ok holds
  came_test None e = Err (error_in e)

  -- how a turn of a loop ended: another one follows, or the loop came to this
  abbrev pub came_turn : (well : Option Bool) → Dynamic H → Option (EvalAltResult H) → Result (Option (Dynamic H)) (EvalAltResult H)
  came_turn None v e = Ok None
  came_turn (Some true) v e = Ok (Some v)
  came_turn (Some false) v e = Err (error_in e)

  -- how a part ended that may have changed the focus: its value with whether it has, or its error
  abbrev pub came_changed : (mark : Option Bool) → Dynamic H → Option (EvalAltResult H) → Result (Dynamic H × Bool) (EvalAltResult H)
  came_changed (Some changed) v e = Ok (v, changed)
  came_changed None v e = Err (error_in e)

  -- how a part ended that hands something out: that, or its error
  abbrev pub came_some : {V : Type 0} → Option V → Option (EvalAltResult H) → Result V (EvalAltResult H)
  came_some (Some x) e = Ok x
  came_some None e = Err (error_in e)

-- the answer of a part that does not count as changing the focus, by whether it went well
abbrev pub unchanged : (well : Bool) → Option Bool
unchanged true = Some false
unchanged false = None
