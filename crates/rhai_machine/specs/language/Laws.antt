-- What holds of every run of the language, under every setting and over every table. A limit is any whole number.
use Rattle.std.specs.Prelude.{◌⊎◌, ◌<◌, ℕ, Bool, [], Result}
use Rattle.rhai_machine.specs.Types.{Dynamic, EvalAltResult}
use Rattle.rhai_machine.specs.machine.Machine.{Config, Run, below, always}
use Rattle.rhai_machine.specs.machine.Point.{Reaches}
use Rattle.rhai_machine.specs.machine.Unwinding.{Unwound}
use Rattle.rhai_machine.specs.machine.Laws.{SameOrRefused, PartsAt, LimitsAgree}
use Rattle.rhai_machine.specs.language.Setting.{Rules, cut, limit_under}
use Rattle.rhai_machine.specs.language.State.{State}
use Rattle.rhai_machine.specs.language.Frames.{Control, Core, ended}
use Rattle.rhai_machine.specs.language.Language.{machine}
use Rattle.rhai_machine.specs.language.Limits.{IsRefused}
use Rattle.rhai_machine.specs.language.Runs.{at}

module _ {S H : Type 0} (rules : Rules S H) where
  -- the error of a refused charge is caught by nothing: the run ends with it, and with table, count and calls as they were
  abbrev pub IsNeverCaught : Type 0
  IsNeverCaught = (allows : ℕ → Bool) (c a : Config S H (Core H)) → IsRefused c.core → Run (machine rules) allows c a →
      Unwound IsRefused c a

  -- the cut run is the run without a limit, or it follows that run up to the first charge that is refused
  abbrev pub CutFollows : Type 0
  CutFollows = (limit : ℕ) (c a : Config S H (Core H)) → Run (machine rules) (below limit) c a
      → Run (machine rules) always c a ⊎ PartsAt (machine rules) IsRefused (below limit) always c a

  -- where the run without a limit ends too, the cut run has the same end, or it refused a charge and its calls begin the other's
  abbrev pub CutOrSame : Type 0
  CutOrSame = (limit : ℕ) (c a b : Config S H (Core H)) → Run (machine rules) (below limit) c a → Run (machine rules) always c b →
      SameOrRefused IsRefused a b

  -- the cut run always ends
  abbrev pub CutEnds : Type 0
  CutEnds = (limit : ℕ) (c : Config S H (Core H)) → (a : Config S H (Core H)) × Run (machine rules) (below limit) c a

  -- under a higher limit the run ends too, and at the same end, or the lower limit refused a charge and its calls begin the other's
  abbrev pub HigherLimit : Type 0
  HigherLimit = (m n : ℕ) → m < n → (c a : Config S H (Core H)) → Run (machine rules) (below m) c a
      → (b : Config S H (Core H)) × Run (machine rules) (below n) c b × SameOrRefused IsRefused a b

  -- where the cut machine leads from a control with nothing below it to a result, the run agrees with every higher limit
  abbrev pub HigherLimitOfSteps : Type 0
  HigherLimitOfSteps = (c : Control H) (old new : State S H) (r : Result (Dynamic H) (EvalAltResult H)) →
      Reaches (machine rules) (cut rules) (at c [] old) (at (ended r) [] new)
      → LimitsAgree (machine rules) IsRefused (limit_under rules) (at c [] old) (at (ended r) [] new)
