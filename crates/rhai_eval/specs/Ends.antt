-- How a part of a tree, or a call, ends: as the machine does, over any stack, or up to where memory ran out.
use Rattle.std.specs.Prelude.{◌≡◌, ◌⊎◌, Bool, List, [], Result}
use Rattle.rhai_values.specs.declared.base.value.Dynamic.{Dynamic}
use Rattle.rhai_errors.specs.declared.error.EvalAltResult.{EvalAltResult}
use Rattle.rhai_machine.specs.machine.Laws.{LimitsAgree}
use Rattle.rhai_machine.specs.machine.Point.{Reaches}
use Rattle.rhai_machine.specs.language.Setting.{Rules, cut, limit_under}
use Rattle.rhai_machine.specs.language.State.{Local, State, HasMemory}
use Rattle.rhai_machine.specs.language.Frames.{Control, Frame, Core, core, ended, ended_or_changed}
use Rattle.rhai_machine.specs.language.Language.{machine}
use Rattle.rhai_machine.specs.language.Limits.{IsRefused}
use Rattle.rhai_machine.specs.language.Memory.{UpToMemory}
use Rattle.rhai_machine.specs.language.Runs.{at, with_core}
use Rattle.rhai_eval.specs.Assigned.{assigned}

module _ {S H : Type 0} (rules : Rules S H) where
  -- Over any stack the machine runs from where a part begins to how it ended, where it did not end out of memory. In any case it does so up
  -- to where memory ran out.
  pub record Ends (begins : List (Frame H) → Local H → Core H) (old : State S H) (memory : Type 0) (end : Control H) (new : State S H) :
      Type 0 where
    pub runs : memory → (k : List (Frame H)) → Reaches (machine rules) (cut rules) (with_core (begins k old.local) old) (at end k new)
    pub up_to : (k : List (Frame H)) → UpToMemory rules (with_core (begins k old.local) old) (at end k new)

  -- from a control to the value or error that came of it
  abbrev pub EndsAs : Control H → State S H → Result (Dynamic H) (EvalAltResult H) → State S H → Type 0
  EndsAs c old result new = Ends (λ k l. core c k l) old (HasMemory result) (ended result) new

  -- Two limits, unless memory runs out: under each higher limit, any whole number, what begins so ends too, and at the same end, or here a
  -- charge was refused, and the calls of natives so far begin those under the higher limit.
  abbrev pub AgreesAbove : Control H → State S H → Result (Dynamic H) (EvalAltResult H) → State S H → Type 0
  AgreesAbove c old result new =
      HasMemory result → LimitsAgree (machine rules) IsRefused (limit_under rules) (at c [] old) (at (ended result) [] new)

  -- from where a call begins to its value or error
  abbrev pub EndsFrom : (begins : List (Frame H) → Local H → Core H) → State S H → Result (Dynamic H) (EvalAltResult H) → State S H →
      Type 0
  EndsFrom begins old result new = Ends begins old (HasMemory result) (ended result) new

  -- from where a call begins to its error, or its value with whether the first argument may have changed
  abbrev pub EndsChanged : (begins : List (Frame H) → Local H → Core H) → State S H → Result (Dynamic H × Bool) (EvalAltResult H) →
      State S H → Type 0
  EndsChanged begins old result new = Ends begins old (HasMemory result) (ended_or_changed result) new

  -- The same of a call that begins within a rule, of which the machine has done a part already: there memory may also have run out before
  -- the call did anything.
  pub record EndsWithin (begins : List (Frame H) → Local H → Core H) (old : State S H) (memory : Type 0) (end : Control H)
      (new : State S H) : Type 0 where
    pub runs : memory → (k : List (Frame H)) → Reaches (machine rules) (cut rules) (with_core (begins k old.local) old) (at end k new)
    pub up_to : (new ≡ old) ⊎ ((k : List (Frame H)) → UpToMemory rules (with_core (begins k old.local) old) (at end k new))

  -- With nothing on the stack the machine runs from where a call begins to some answer, and leaves this state. Of a call on a target it
  -- tells what has become of the value that was worked on.
  abbrev pub EndsAlone : (begins : List (Frame H) → Local H → Core H) → (old new : State S H) → Type 0
  EndsAlone begins old new = (answer : Result (Dynamic H × Bool) (EvalAltResult H)) ×
      Reaches (machine rules) (cut rules) (with_core (begins [] old.local) old) (at (ended_or_changed answer) [] new)

  -- from where an assignment begins to its error, or to `()` as `Changed`
  abbrev pub EndsAssigned : (begins : List (Frame H) → Local H → Core H) → State S H → Result (Unit {0}) (EvalAltResult H) → State S H →
      Type 0
  EndsAssigned begins old result new = EndsWithin begins old (HasMemory result) (ended_or_changed (assigned result)) new
