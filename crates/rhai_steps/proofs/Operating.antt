-- An operator whose operands are there, and a call that runs out of memory before it is dispatched.
use Rattle.std.proofs.Common.{◌≡◌, ℕ, Bool, true, false, List, [], ◌∷◌, Option, Some, None, Result, Ok, Err, refl, sym, ap, ◌∙◌}
use Rattle.std.proofs.Common.{◌&&◌, if◌then◌else◌}
use Rattle.std.specs.Prelude.{codes}
use Rattle.std.specs.Str.{bytes_eq}
use Rattle.rhai_tree.specs.declared.position.Position.{Position}
use Rattle.rhai_values.specs.declared.base.value.Dynamic.{Dynamic}
use Rattle.rhai_values.specs.declared.base.value.Union.TheVariants as value
use Rattle.rhai_values.specs.Copy.{plain}
use Rattle.rhai_values.specs.TypeNames.{type_name_of}
use Rattle.rhai_errors.specs.declared.error.EvalAltResult.{EvalAltResult}
use Rattle.rhai_errors.specs.declared.error.EvalAltResult.TheVariants as error
use Rattle.rhai_state.specs.declared.limits.Limits.{Limits}
use Rattle.rhai_errors.specs.Errors.{is_out_of_memory, at_position}
use Rattle.rhai_functions.specs.declared.function.Function.{Function}
use Rattle.rhai_operators.specs.Answers as operators
use Rattle.rhai_machine.specs.machine.Memory.{here, out_before_step, Leads}
use Rattle.rhai_machine.specs.language.Setting.{Setting, Rules, cut}
use Rattle.rhai_machine.specs.language.State.{State, Local, HasMemory, Answers}
use Rattle.rhai_machine.specs.language.Frames.{Back, Call, Control, Core, Dispatch, Fail, Frame, core, ended, on_value}
use Rattle.rhai_machine.specs.language.Calls.{applied, called_core, called_function, dispatch_core, enter_core, found_core}
use Rattle.rhai_machine.specs.language.Calls.{asks_function, dispatch_behind, function_behind, knows_asked, named_core, races}
use Rattle.rhai_machine.specs.language.Calls.{operator_core, plainly}
use Rattle.rhai_machine.specs.language.Calls.{signature, types_of}
use Rattle.rhai_machine.specs.language.Values.{bool_value, through}
use Rattle.rhai_machine.specs.language.Language.{without_memory, machine}
use Rattle.rhai_machine.specs.language.Runs.{at, with_core}

module _ {H : Type 0} (s : Setting H) (how : Dispatch) (call : Call H) (k : List (Frame H)) (l : Local H) where
  -- memory that runs out fails above the frames that stand there
  abbrev fails_at : Position → Core H
  fails_at pos = core (Fail (error.ErrorOutOfMemory pos)) k l

  wants_entered : (of_method : Bool) (f : Function H) (pos : Position) →
      without_memory pos (enter_core of_method f how call k l) ≡ fails_at pos
  wants_entered true f pos = refl
  wants_entered false f pos = refl

  wants_found : (found : Option (Function H)) (pos : Position) → without_memory pos (found_core s found how call k l) ≡ fails_at pos
  wants_found (Some f) pos = wants_entered how.of_method f pos
  wants_found None pos = refl

  wants_called : (pos : Position) → without_memory pos (called_core s how call k l) ≡ fails_at pos
  wants_called pos = wants_found (called_function s how call l) pos

  after_one : (first second : Bool) (r q : Control H) (pos : Position) →
      without_memory pos (if first then core r k l else if second then core q k l else called_core s how call k l) ≡ fails_at pos
  after_one true second r q pos = refl
  after_one false true r q pos = refl
  after_one false false r q pos = wants_called pos

  after_two : (test : Bool) (r : Control H) (pos : Position) →
      without_memory pos (if test then core r k l else called_core s how call k l) ≡ fails_at pos
  after_two true r pos = refl
  after_two false r pos = wants_called pos

  abbrev seen : Dynamic H → Result (Dynamic H) (EvalAltResult H)
  seen v = through l.around.cells v call.operation.at

  wants_named : (args : List (Dynamic H)) (pos : Position) → without_memory pos (named_core s how args call k l) ≡ fails_at pos
  wants_named [] pos = wants_called pos
  wants_named (v ∷ []) pos = after_one (bytes_eq call.operation.name (codes "type_of")) (bytes_eq call.operation.name (codes "eval"))
      (Back (plain (value.Str (type_name_of s.host_type l.around.cells v))))
      (Fail (error.ErrorFunctionNotFound (signature call.operation.name (types_of s.host_type l.around.cells (v ∷ [])))
      call.operation.at)) pos
  wants_named (v ∷ w ∷ []) pos =
      after_two (bytes_eq call.operation.name (codes "is_def_fn") && asks_function (seen v) (seen w))
      (Back (bool_value (knows_asked s l.around (seen v) (seen w)))) pos
  wants_named (v ∷ w ∷ u ∷ args) pos = wants_called pos

  abbrev race : Control H
  race = Fail (error.ErrorDataRace call.operation.name call.operation.at)

  wants_dispatched : (held : Bool) (pos : Position) →
      without_memory pos (if held then core race k l else named_core s how call.args call k l) ≡ fails_at pos
  wants_dispatched true pos = refl
  wants_dispatched false pos = wants_named call.args pos

  wants_on : (r : Result (Function H) (EvalAltResult H)) (pos : Position) →
      without_memory pos (on_value r (λ f. enter_core false f how call k l) k l) ≡ fails_at pos
  wants_on (Ok f) pos = wants_entered false f pos
  wants_on (Err e) pos = refl

  wants_behind : (path : List (List ℕ)) (pos : Position) → without_memory pos (dispatch_behind s path how call k l) ≡ fails_at pos
  wants_behind [] pos = wants_dispatched (races l.around.cells call.args) pos
  wants_behind (root ∷ path) pos = wants_on (function_behind s root path how call l) pos

  -- so it does before a call is dispatched
  pub dispatch_runs_out : (pos : Position) → without_memory pos (dispatch_core s how call k l) ≡ fails_at pos
  dispatch_runs_out pos = wants_behind how.path.names pos

module _ {S H : Type 0} (rules : Rules S H) where
  -- memory runs out before an operator is done
  starts_running_out : (wanted : Option (Result (Dynamic H) (EvalAltResult H))) (call : Call H) (k : List (Frame H)) (s : State S H)
      (pos : Position) →
      Leads (machine rules) (cut rules) (with_core (operator_core rules.setting wanted call k s.local) s)
      (at (Fail (error.ErrorOutOfMemory pos)) k s)
  starts_running_out (Some r) call k s pos = out_before_step {at = pos} here
  starts_running_out None call k s pos =
      out_before_step {at = pos} (rw (dispatch_runs_out rules.setting (plainly false false) call k s.local pos) here)

-- a position changes nothing of that
placed_memory : {H : Type 0} (pos : Position) (e : EvalAltResult H) → is_out_of_memory (at_position pos e) ≡ is_out_of_memory e
placed_memory pos (error.ErrorOutOfMemory at) = refl
placed_memory pos _ = refl

failed_memory : {H : Type 0} (r : Result (Dynamic H) (EvalAltResult H)) (e : EvalAltResult H) → HasMemory r → r ≡ Err e →
    is_out_of_memory e ≡ false
failed_memory (Ok v) e m is = cc
failed_memory (Err x) e m is = let same : x ≡ e = cc in ap is_out_of_memory (sym same) ∙ m

-- an applied built-in had memory where its answer had
pub outcome_memory : {H : Type 0} (limits : Limits) (outcome result : Result (Dynamic H) (EvalAltResult H)) (pos : Position) →
    HasMemory result →
    result ≡ applied limits outcome pos → operators.HasMemory (Some outcome)
outcome_memory limits (Ok v) result pos m is = tt
outcome_memory limits (Err e) result pos m is = sym (placed_memory pos e) ∙ failed_memory result (at_position pos e) m is

module _ {S H : Type 0} (rules : Rules S H) (call : Call H) (k : List (Frame H)) (s : State S H) where
  built_now : (answer wanted : Option (Result (Dynamic H) (EvalAltResult H))) (outcome result : Result (Dynamic H) (EvalAltResult H)) →
      (operators.HasMemory answer → answer ≡ wanted) → answer ≡ Some outcome →
      Answers result (applied rules.setting.limits outcome call.operation.at) → HasMemory result →
      Leads (machine rules) (cut rules) (with_core (operator_core rules.setting wanted call k s.local) s) (at (ended result) k s)
  built_now answer wanted outcome result value is answers m =
      let answered = answers m in
      let same : wanted ≡ Some outcome = sym (value (rw is (outcome_memory rules.setting.limits outcome result call.operation.at m
      answered))) ∙ is in
      rw (same, answered) here

  -- a built-in has the answer
  pub built : (answer wanted : Option (Result (Dynamic H) (EvalAltResult H))) (outcome result : Result (Dynamic H) (EvalAltResult H)) →
      (operators.HasMemory answer → answer ≡ wanted) → answer ≡ Some outcome →
      Answers result (applied rules.setting.limits outcome call.operation.at) →
      Leads (machine rules) (cut rules) (with_core (operator_core rules.setting wanted call k s.local) s) (at (ended result) k s)
  built answer wanted outcome (Ok v) value is answers = built_now answer wanted outcome (Ok v) value is answers tt
  built answer wanted outcome (Err (error.ErrorOutOfMemory pos)) value is answers = starts_running_out rules wanted call k s pos
  built answer wanted outcome (Err e) value is answers = built_now answer wanted outcome (Err e) value is answers refl
