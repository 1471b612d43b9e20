-- An assignment by an operator, as the machine has it, and what comes of its parts.
use Rattle.std.specs.Prelude.{◌≡◌, ℕ, Bool, true, false, List, Option, Some, None, Result, Ok, Err}
use Rattle.rhai_tree.specs.declared.position.Position.{Position}
use Rattle.rhai_values.specs.declared.base.value.Dynamic.{Dynamic}
use Rattle.rhai_errors.specs.declared.error.EvalAltResult.{EvalAltResult}
use Rattle.rhai_state.specs.declared.limits.Limits.{Limits}
use Rattle.rhai_machine.specs.language.State.{Local, HasMemory}
use Rattle.rhai_errors.specs.Native.{Natives, OfName}
use Rattle.rhai_values.specs.TypeNames.{own_type_name}
use Rattle.rhai_machine.specs.language.Values.{unit_value}
use Rattle.rhai_machine.specs.language.Places.{Place, is_barred}
use Rattle.rhai_machine.specs.language.Frames.{Attempt, Update, Frame, Core, core, ended}
use Rattle.rhai_machine.specs.language.Calls.{sized}
use Rattle.rhai_machine.specs.language.Assignment.{says_missing}
use Rattle.rhai_assign.specs.declared.place.Update as code

module _ {H : Type 0} where
  -- an update of the code as the machine has it, with an attempt, the place and the value of the target, and the operand
  abbrev pub update_of : code.Update → Attempt → Place → (target operand : Dynamic H) → Update H
  update_of update attempt place target operand = record {
    attempt = attempt;
    operator = update.token;
    at = update.at;
    place = place;
    target = target;
    operand = operand;
    target_at = update.target_at;
  }

  -- an assignment ends with `()`, where its last measurement went well
  abbrev pub finished : {A : Type 0} → Result A (EvalAltResult H) → Result (Dynamic H) (EvalAltResult H)
  finished (Ok v) = Ok unit_value
  finished (Err e) = Err e

  -- how an update ends whose native changed the target: after the native's value the target is measured
  abbrev pub changed_of : Limits → Result (Dynamic H) (EvalAltResult H) → (target : Dynamic H) → Position →
      Result (Dynamic H) (EvalAltResult H)
  changed_of limits (Ok v) target at = finished (sized limits target at)
  changed_of limits (Err e) target at = Err e

  -- an error, None where the condition is true
  abbrev pub error_unless : Bool → EvalAltResult H → Option (EvalAltResult H)
  error_unless true e = None
  error_unless false e = Some e

  -- a fault, unless it says that no function has the name
  abbrev pub other_fault : List ℕ → EvalAltResult H → Option (EvalAltResult H)
  other_fault name e = error_unless (says_missing name e) e

  -- the native of a name is barred from a target that is no handle where it is a constant
  abbrev pub is_barred_for : {S : Type 0} → (H → List ℕ) → Natives S H → S → (name : List ℕ) → Dynamic H → Bool
  is_barred_for host natives t name target = is_barred (natives.pure t (OfName name (own_type_name host target.value) 2)) target

  -- a core over any stack is the end of a part, unless memory ran out in it
  abbrev pub Becomes : (List (Frame H) → Local H → Core H) → Local H → Result (Dynamic H) (EvalAltResult H) → Local H → Type 0
  Becomes start old result new = HasMemory result → (k : List (Frame H)) → start k old ≡ core (ended result) k new
