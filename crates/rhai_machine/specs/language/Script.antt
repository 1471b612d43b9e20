-- A whole script.
use Rattle.std.specs.Prelude.{Bool, false, List, [], ◌∷◌, Result}
use Rattle.rhai_machine.specs.Types.{Dynamic, EvalAltResult, Stmt}
use Rattle.rhai_machine.specs.machine.Point.{Point, Reaches}
use Rattle.rhai_machine.specs.machine.Laws.{LimitsAgree}
use Rattle.rhai_machine.specs.language.Setting.{Rules, cut, limit_under}
use Rattle.rhai_machine.specs.language.State.{State, HasMemory}
use Rattle.rhai_machine.specs.language.Frames.{Core, ended, Enter, Top}
use Rattle.rhai_machine.specs.language.Language.{machine}
use Rattle.rhai_machine.specs.language.Limits.{IsRefused}
use Rattle.rhai_machine.specs.language.Runs.{at}

module _ {S H : Type 0} where
  -- a script's start: its statements, in a list that does not restore, over the frame of its end
  abbrev pub start_of_script : List Stmt → (map_exit : Bool) → State S H → Point S (Core H)
  start_of_script statements map_exit old = at (Enter statements false) (Top map_exit ∷ []) old

  -- a script's end: its value or its error, over the empty stack
  abbrev pub end_of_script : Result (Dynamic H) (EvalAltResult H) → State S H → Point S (Core H)
  end_of_script result new = at (ended result) [] new

  -- the script ends as the cut machine does, unless memory ran out
  abbrev pub EndsAsMachine : Rules S H → List Stmt → (map_exit : Bool) → State S H → Result (Dynamic H) (EvalAltResult H) → State S H →
      Type 0
  EndsAsMachine rules statements map_exit old result new =
      HasMemory result → Reaches (machine rules) (cut rules) (start_of_script statements map_exit old) (end_of_script result new)

  -- Unless memory ran out: under each higher limit, any whole number, the script ends too, and at the same end, or here a charge was
  -- refused, and the calls of natives so far begin those under the higher limit.
  abbrev pub AgreesWithHigherLimits : Rules S H → List Stmt → (map_exit : Bool) → State S H → Result (Dynamic H) (EvalAltResult H) →
      State S H → Type 0
  AgreesWithHigherLimits rules statements map_exit old result new =
      HasMemory result → LimitsAgree (machine rules) IsRefused (limit_under rules) (start_of_script statements map_exit old)
      (end_of_script result new)
