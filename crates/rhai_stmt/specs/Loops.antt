-- A `for` in code as the machine's, and how its turns are entered.
use Rattle.std.specs.Prelude.{ℕ, true, ◌∷◌, List, Result, Ok, Err}
use Rattle.rhai_machine.specs.Types.{EvalAltResult}
use Rattle.rhai_machine.specs.language.Frames.{Core, core, Enter, Fail, ForBody, Frame}
use Rattle.rhai_machine.specs.language.State.{Local}
use Rattle.rhai_machine.specs.language.Turns.{ForLoop, Turns}
use Rattle.rhai_stmt.specs.declared.parts.ForParts.{ForParts}

-- the parts of a `for` in code, as the machine has them
abbrev pub loop_in : ForParts → ForLoop
loop_in parts = record {
  variable = parts.variable.now;
  counter = parts.counter.now;
  items = parts.items.now;
  body = parts.body.now;
}

module _ {H : Type 0} where
  -- where the variables of a turn are written its body is run, and else the loop is left by the error
  abbrev pub entered_at : Result (Unit {0}) (EvalAltResult H) → (loop : ForLoop) → (rest : Turns H) → (turn base : ℕ) → List (Frame H) →
      Local H → Core H
  entered_at (Ok done) loop rest turn base k l = core (Enter loop.body.statements true) (ForBody loop rest turn base ∷ k) l
  entered_at (Err e) loop rest turn base k l = core (Fail e) k l
