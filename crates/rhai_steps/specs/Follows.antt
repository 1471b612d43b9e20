-- A part of an evaluator that begins in the middle of a rule: memory may run out before it has done what the rule has done
-- already.
use Rattle.std.specs.Prelude.{◌≡◌, List, Result, Err}
use Rattle.rhai_tree.specs.declared.position.Position.{Position}
use Rattle.rhai_errors.specs.declared.error.EvalAltResult.{EvalAltResult}
use Rattle.rhai_errors.specs.declared.error.EvalAltResult.TheVariants as error
use Rattle.rhai_machine.specs.language.Setting.{Rules}
use Rattle.rhai_machine.specs.language.State.{State, Local}
use Rattle.rhai_machine.specs.language.Frames.{Control, Frame, Core, core}
use Rattle.rhai_machine.specs.language.Runs.{Goes}

module _ {S H A : Type 0} (rules : Rules S H) (told : Result A (EvalAltResult H) → Control H) where
  -- the machine goes from a core to what tells how the part ended; or memory ran out before the part did anything
  pub data Follows (start : List (Frame H) → Local H → Core H) (old : State S H) (result : Result A (EvalAltResult H)) (new : State S H) :
      Type 0 where
    Does : Goes rules start old (core (told result)) new → Follows start old result new
    FindsNoMemory : (pos : Position) → result ≡ Err (error.ErrorOutOfMemory pos) → new ≡ old → Follows start old result new
