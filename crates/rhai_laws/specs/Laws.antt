-- What holds of every run of the language, also where memory runs out.
use Rattle.std.specs.Prelude.{◌≡◌, ◌≤◌, [], length, Result}
use Rattle.rhai_tree.specs.Names.{Begins}
use Rattle.rhai_values.specs.declared.base.value.Dynamic.{Dynamic}
use Rattle.rhai_errors.specs.declared.error.EvalAltResult.{EvalAltResult}
use Rattle.rhai_machine.specs.machine.Point.{Point, Reaches}
use Rattle.rhai_machine.specs.language.Setting.{Rules, cut}
use Rattle.rhai_machine.specs.language.State.{State, HasMemory}
use Rattle.rhai_machine.specs.language.Frames.{Control, Core, ended}
use Rattle.rhai_machine.specs.language.Language.{machine}
use Rattle.rhai_machine.specs.machine.Memory.{RunsOut, Leads}
use Rattle.rhai_machine.specs.language.Memory.{IsOutOfMemory, UpToMemory}
use Rattle.rhai_machine.specs.language.Runs.{at, Steps}
use Rattle.rhai_laws.specs.Kept.{Sound, names_of, AddsNone, Restores, Grown, Kept}
use Rattle.rhai_laws.specs.Memory.{IsLeft}

module _ {S H : Type 0} (rules : Rules S H) where
  -- where a run does not end out of memory, the machine takes its steps by itself
  abbrev pub GoesWithMemory : Type 0
  GoesWithMemory =
      (p : Point S (Core H)) (r : Result (Dynamic H) (EvalAltResult H)) (new : State S H) → HasMemory r →
      Leads (machine rules) (cut rules) p (at (ended r) [] new)
      → Reaches (machine rules) (cut rules) p (at (ended r) [] new)

  -- else it does so up to where memory runs out
  abbrev pub GoesUpToMemory : Type 0
  GoesUpToMemory = (p q : Point S (Core H)) → Leads (machine rules) (cut rules) p q → UpToMemory rules p q

  -- where memory ran out count and table's state stay as they were there
  abbrev pub OutOfMemoryStays : Type 0
  OutOfMemoryStays = (p q : Point S (Core H)) → (o : RunsOut (machine rules) (cut rules) IsOutOfMemory p q) → IsLeft o.since q

  -- what steps leave, from a control that is not in the midst of an update, or whose update has a place that stands
  abbrev pub StepsGrow : Type 0
  StepsGrow = (c d : Control H) (old new : State S H) → Sound c old.local → Steps rules c old d new → Grown rules old new

  -- where imports are taken back they stay
  abbrev pub StepsKeep : Type 0
  StepsKeep = (c d : Control H) (old new : State S H) → Restores c old.local → Steps rules c old d new → Kept rules old new

  -- what adds no variable leaves the names as they were
  abbrev pub NamesStay : Type 0
  NamesStay = (c d : Control H) (old new : State S H) → AddsNone c → Sound c old.local → Steps rules c old d new
      → names_of new.local ≡ names_of old.local

  -- variables are only added
  abbrev pub NamesBegin : Type 0
  NamesBegin = (c d : Control H) (old new : State S H) → Sound c old.local → Steps rules c old d new
      → Begins (names_of old.local) (names_of new.local)

  -- there are never more variables than the limit allows, if there are not at the start
  abbrev pub VariablesStay : Type 0
  VariablesStay = (c d : Control H) (old new : State S H) → Sound c old.local → Steps rules c old d new
      → length (names_of old.local) ≤ rules.setting.limits.max_variables → length (names_of new.local) ≤ rules.setting.limits.max_variables
