-- What an update ends with once its native has answered, and where memory was there.
use Rattle.std.proofs.Common.{◌≡◌, Bool, true, false, List, Some, None, Result, Ok, Err, refl, sym, ap, ◌∙◌}
use Rattle.rhai_tree.specs.declared.position.Position.{Position}
use Rattle.rhai_values.specs.declared.base.value.Dynamic.{Dynamic}
use Rattle.rhai_errors.specs.declared.error.EvalAltResult.{EvalAltResult}
use Rattle.rhai_errors.specs.declared.error.EvalAltResult.TheVariants as error
use Rattle.rhai_state.specs.declared.limits.Limits.{Limits}
use Rattle.rhai_errors.specs.Errors.{is_out_of_memory, at_position}
use Rattle.rhai_operators.specs.Answers as operators
use Rattle.rhai_machine.specs.language.Setting.{Setting}
use Rattle.rhai_machine.specs.language.State.{Local, HasMemory}
use Rattle.rhai_machine.specs.language.Places.{Place, put}
use Rattle.rhai_machine.specs.language.Calls.{applied, with_position, sized}
use Rattle.rhai_machine.specs.language.Frames.{AsValue, Update, Frame, Control, Core, core, ended, AskUpdate, Back, Fail}
use Rattle.rhai_machine.specs.language.Assignment.{changed_core, done, fault_core, value_core, written_core}
use Rattle.rhai_assign.specs.Updates.{changed_of, finished, error_unless}

-- a position changes nothing of an error that memory ran out
placed_memory : {H : Type 0} (pos : Position) (e : EvalAltResult H) → is_out_of_memory (at_position pos e) ≡ is_out_of_memory e
placed_memory pos (error.ErrorOutOfMemory at) = refl
placed_memory pos _ = refl

module _ {H : Type 0} where
  done_ended : {A : Type 0} (r : Result A (EvalAltResult H)) → done r ≡ ended (finished r)
  done_ended (Ok v) = refl
  done_ended (Err e) = refl

  -- a built-in whose value was written, or whose error was told, had memory
  pub wrote_memory : (limits : Limits) (outcome result : Result (Dynamic H) (EvalAltResult H)) (pos : Position) (place : Place)
      (k : List (Frame H)) (l after : Local H) →
      HasMemory result → written_core (applied limits outcome pos) place k l ≡ core (ended result) k after →
      operators.HasMemory (Some outcome)
  wrote_memory limits (Ok v) result pos place k l new m is = tt
  wrote_memory limits (Err e) (Ok v) pos place k l new m is =
      let apart : Fail (at_position pos e) ≡ Back v = ap (λ (c : Core H). c.control) is in cc
  wrote_memory limits (Err e) (Err x) pos place k l new m is =
      let together : Fail (at_position pos e) ≡ Fail x = ap (λ (c : Core H). c.control) is in
      let same : at_position pos e ≡ x = cc in
      sym (placed_memory pos e) ∙ ap is_out_of_memory same ∙ m

module _ {H : Type 0} (s : Setting H) where
  -- the native `op=` changed the target
  pub changes : (r : Result (Dynamic H) (EvalAltResult H)) (u : Update H) (k : List (Frame H)) (l : Local H) →
      changed_core s r u k l ≡ core (ended (changed_of s.limits r u.target u.target_at)) k l
  changes (Ok v) u k l = ap (λ (control : Control H). core control k l) (done_ended (sized s.limits u.target u.target_at))
  changes (Err e) u k l = refl

  -- its fault says that there is no such function, or anything else
  pub other : (missing : Bool) (e error placed : EvalAltResult H) (u : Update H) (k : List (Frame H)) (l : Local H) →
      error_unless missing e ≡ Some error →
      placed ≡ with_position u.at error → fault_core s missing (with_position u.at e) u k l ≡ core (ended (Err placed)) k l
  other true e error placed u k l is at = cc
  other false e error placed u k l is at = let same : e ≡ error = cc in rw (at, same) refl

  pub no_function : (missing : Bool) (e placed : EvalAltResult H) (u : Update H) (k : List (Frame H)) (l : Local H) →
      error_unless missing e ≡ None →
      fault_core s missing placed u k l ≡ core (AskUpdate (record u { attempt = AsValue })) k l
  no_function true e placed u k l is = refl
  no_function false e placed u k l is = cc

  -- the native `op` gave a value
  pub valued : (v : Dynamic H) (u : Update H) (k : List (Frame H)) (l : Local H) →
      value_core s (Ok v) u k l ≡ core (ended (finished (sized s.limits v u.target_at))) k (put u.place v l)
  valued v u k l = ap (λ (control : Control H). core control k (put u.place v l)) (done_ended (sized s.limits v u.target_at))
