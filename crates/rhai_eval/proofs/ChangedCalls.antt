-- How calls end that say whether they changed their first argument, and what they keep.
use Rattle.std.proofs.Common.{◌≡◌, Bool, true, false, List, [], ◌∷◌, Option, Some, None, Result, Ok, Err, refl}
use Rattle.rhai_tree.specs.declared.position.Position.{Position}
use Rattle.rhai_values.specs.declared.base.value.Dynamic.{Dynamic}
use Rattle.rhai_state.specs.declared.scope.Scope.{Scope}
use Rattle.rhai_state.specs.declared.state.GlobalRuntimeState.{GlobalRuntimeState}
use Rattle.rhai_errors.specs.declared.error.EvalAltResult.{EvalAltResult}
use Rattle.rhai_errors.specs.declared.error.EvalAltResult.TheVariants as error
use Rattle.rhai_machine.specs.language.Setting.{Rules, cut}
use Rattle.rhai_machine.specs.language.State.{Held, Local, State, HasMemory}
use Rattle.rhai_machine.specs.language.Frames.{Core, Frame, core, ended_or_changed, Ask, Call, Dispatch, Fail, FromFocus, Operation}
use Rattle.rhai_machine.specs.language.Calls.{dispatch_core}
use Rattle.rhai_machine.specs.language.Language.{machine}
use Rattle.rhai_machine.specs.language.Memory.{IsOutOfMemory}
use Rattle.rhai_machine.specs.language.Runs.{at, with_core, Steps, Goes}
use Rattle.rhai_machine.specs.machine.Memory.{Leads}
use Rattle.rhai_laws.specs.Kept.{Kept, names_of}
use Rattle.rhai_laws.proofs.KeptCalls.{dispatch_keeps}
use Rattle.rhai_laws.proofs.KeptLaws.{kept, kept_from, names_stay_from}
use Rattle.rhai_laws.proofs.MemoryLaws.{straight}
use Rattle.rhai_laws.proofs.ScriptMemory.{runs_up_to_memory, memory_unwinds}
use Rattle.rhai_steps.specs.Callers.{state_of}
use Rattle.rhai_steps.specs.Lending.{back_in, passed_call}
use Rattle.rhai_eval.specs.Ends.{EndsChanged}
use Rattle.rhai_eval.specs.Places.{on_place, with_place}

-- one of two holds whatever a truth value is
pub either_way : {P : Type 0} (b : Bool) → (b ≡ true → P) → (b ≡ false → P) → P
either_way true holds fails = holds refl
either_way false holds fails = fails refl

module _ {S H : Type 0} (rules : Rules S H) (operation : Operation) (guarded : Bool) (rest : List (Dynamic H)) (t u : S)
    (old new : GlobalRuntimeState H) (scope : Scope H) (this : Option (Dynamic H)) (result : Result (Dynamic H × Bool) (EvalAltResult H))
    (first last : Option (Dynamic H)) where
  -- the state before a call on a value in a place of the caller, and after it
  abbrev before : Option (Dynamic H) → State S H
  before place = state_of t old scope (with_place this place)

  abbrev later : Option (Dynamic H) → State S H
  later place = state_of u new scope (with_place this place)

  module _ (x y : Dynamic H) (is : first ≡ Some x) (ends : last ≡ Some y) where
    -- there is such a value
    pub native_in_place : Steps rules (Ask (passed_call operation (Some FromFocus) guarded true (x ∷ rest))) (before (Some x))
        (ended_or_changed result) (back_in (Some FromFocus) y (later (Some x))) →
        Steps rules (Ask (on_place operation guarded first rest)) (before first) (ended_or_changed result) (later last)
    native_in_place runs = rw (is, ends) runs

  module _ (is : first ≡ None) (ends : last ≡ None) where
    -- and there is none
    pub native_alone : Steps rules (Ask (passed_call operation None false true [])) (before None) (ended_or_changed result) (later None) →
        Steps rules (Ask (on_place operation guarded first rest)) (before first) (ended_or_changed result) (later last)
    native_alone runs = rw (is, ends) runs

module _ {H : Type 0} where
  had_memory : (r : Result (Dynamic H × Bool) (EvalAltResult H)) → HasMemory r → (at : Position) →
      ended_or_changed r ≡ Fail (error.ErrorOutOfMemory at) → ⊥
  had_memory (Ok (v, true)) has at is = cc
  had_memory (Ok (v, false)) has at is = cc
  had_memory (Err e) has at is =
      let same : e ≡ error.ErrorOutOfMemory at = cc in let no : true ≡ false = rw same at has in cc

module _ {S H : Type 0} (rules : Rules S H) (old new : State S H) (r : Result (Dynamic H × Bool) (EvalAltResult H)) where
  -- over any stack, such a call ends as it runs
  pub ends_changed : (begins : List (Frame H) → Local H → Core H) →
      ((k : List (Frame H)) → Leads (machine rules) (cut rules) (with_core (begins k old.local) old) (at (ended_or_changed r) k new)) →
      EndsChanged rules begins old r new
  ends_changed begins runs = record {
    runs = λ memory k. straight (machine rules) (cut rules) IsOutOfMemory (memory_unwinds rules) (runs k)
        (λ is. had_memory r memory is.0 is.1);
    up_to = λ k. runs_up_to_memory rules (runs k);
  }

  module _ (call : Call H) where
    pub native_ends : Steps rules (Ask call) old (ended_or_changed r) new → EndsChanged rules (λ k l. core (Ask call) k l) old r new
    unfolding Goes
    native_ends runs = ends_changed (λ k l. core (Ask call) k l) runs

    pub native_kept : Steps rules (Ask call) old (ended_or_changed r) new → Kept rules old new
    native_kept runs = kept rules (Ask call) (ended_or_changed r) old new tt runs

module _ {S H : Type 0} (rules : Rules S H) where
  module _ (how : Dispatch) (call : Call H) (old new : State S H) (r : Result (Dynamic H × Bool) (EvalAltResult H)) where
    -- over any stack a call by name ends as it runs
    pub call_ends : Goes rules (dispatch_core rules.setting how call) old (core (ended_or_changed r)) new →
        EndsChanged rules (dispatch_core rules.setting how call) old r new
    unfolding Goes
    call_ends runs = ends_changed rules old new r (dispatch_core rules.setting how call) runs

    -- and keeps what every run keeps
    pub call_kept : Goes rules (dispatch_core rules.setting how call) old (core (ended_or_changed r)) new → Kept rules old new
    unfolding Goes
    call_kept runs = kept_from rules (dispatch_core rules.setting how call [] old.local) (ended_or_changed r) old new
        (λ a. dispatch_keeps a rules.setting how call [] old.local) (runs [])

    -- the variables have the names that they had
    pub call_names : Goes rules (dispatch_core rules.setting how call) old (core (ended_or_changed r)) new →
        names_of new.local ≡ names_of old.local
    unfolding Goes
    call_names runs = names_stay_from rules (dispatch_core rules.setting how call [] old.local) (ended_or_changed r) old new
        (λ a. dispatch_keeps a rules.setting how call [] old.local) (runs [])

  -- which is the same whatever is in hand
  pub kept_holding : (t u : S) (g h : GlobalRuntimeState H) (s e : Scope H) (first after held : Held H) →
      Kept rules (state_of t g s first) (state_of u h e after) → Kept rules (state_of t g s held) (state_of u h e held)
  kept_holding t u g h s e first after held k = record {
    counts = k.counts;
    within = k.within;
    around = k.around;
    imports = k.imports;
    scope_level = k.scope_level;
    bound = refl;
  }
