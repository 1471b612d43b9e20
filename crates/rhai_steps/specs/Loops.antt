-- How turns of loops end.
use Rattle.std.specs.Prelude.{if◌then◌else◌, Bool, true, false, Option, Some, None, Result, Ok, Err}
use Rattle.rhai_values.specs.declared.base.value.Dynamic.{Dynamic}
use Rattle.rhai_errors.specs.declared.error.EvalAltResult.{EvalAltResult}
use Rattle.rhai_errors.specs.declared.error.EvalAltResult.TheVariants as error
use Rattle.rhai_machine.specs.language.Values.{unit_value}
use Rattle.rhai_machine.specs.language.Loops.{goes_on}
use Rattle.rhai_machine.specs.language.Frames.{Control, Back, Fail}
use Rattle.rhai_steps.specs.declared.loops.BodyEnd.{BodyEnd}
use Rattle.rhai_steps.specs.declared.loops.BodyEnd.TheVariants.{Done, Continue, Break}

module _ {H : Type 0} where
  -- a `break` or a `continue` on its way to its loop
  abbrev pub leaves_turn : EvalAltResult H → Bool
  leaves_turn (error.LoopBreak v is_break at) = true
  leaves_turn _ = false

  -- what a loop makes of its body's outcome: any other error passes
  abbrev pub turn_in : Result (Dynamic H) (EvalAltResult H) → Result (BodyEnd H) (EvalAltResult H)
  turn_in (Ok v) = Ok Done
  turn_in (Err (error.LoopBreak v false at)) = Ok Continue
  turn_in (Err (error.LoopBreak v true at)) = Ok (Break v)
  turn_in (Err e) = Err e

  -- a `while` goes on after its body and after a `continue`, and ends with the value of a `break`
  abbrev pub after_body : Result (BodyEnd H) (EvalAltResult H) → Result (Option (Dynamic H)) (EvalAltResult H)
  after_body (Ok (Break v)) = Ok (Some v)
  after_body (Ok Done) = Ok None
  after_body (Ok Continue) = Ok None
  after_body (Err e) = Err e

  -- a `do` whose condition was told goes on, or ends with `()`
  abbrev pub after_test : (until holds : Bool) → Option (Dynamic H)
  after_test until holds = if goes_on until holds then None else Some unit_value

  -- after a turn: another one, the end of the loop with its value, or an error
  abbrev pub after_turn : Result (Option (Dynamic H)) (EvalAltResult H) → (turn : Control H) → Control H
  after_turn (Ok None) turn = turn
  after_turn (Ok (Some v)) turn = Back v
  after_turn (Err e) turn = Fail e
