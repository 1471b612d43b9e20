-- A call by name, told of what is in the caller's places.
use Rattle.std.proofs.Common.{◌≡◌, Bool, true, false, List, Option, Result}
use Rattle.std.specs.Prelude.{is_some, unwrap_or}
use Rattle.rhai_values.specs.declared.base.value.Dynamic.{Dynamic}
use Rattle.rhai_state.specs.declared.scope.Scope.{Scope}
use Rattle.rhai_state.specs.declared.state.GlobalRuntimeState.{GlobalRuntimeState}
use Rattle.rhai_errors.specs.declared.error.EvalAltResult.{EvalAltResult}
use Rattle.rhai_state.specs.Scope.{names_in}
use Rattle.rhai_machine.specs.language.Setting.{Rules}
use Rattle.rhai_machine.specs.language.State.{Held}
use Rattle.rhai_machine.specs.language.Frames.{Operation}
use Rattle.rhai_machine.specs.language.Calls.{dispatch_core}
use Rattle.rhai_laws.specs.Kept.{Kept}
use Rattle.rhai_steps.specs.Callers.{state_of}
use Rattle.rhai_eval.specs.Ends.{EndsChanged}
use Rattle.rhai_eval.specs.Places.{by_name, by_value, on_place, with_place}

module _ {S H : Type 0} (rules : Rules S H) (operation : Operation) (rest : List (Dynamic H)) (t u : S) (g h : GlobalRuntimeState H)
    (r : Result (Dynamic H × Bool) (EvalAltResult H)) (variables : Scope H) where
  -- with a first argument that is lent, by what was in the places of scope and argument and what is left there
  abbrev pub LentTold : (of_method : Bool) (this : Option (Dynamic H)) (scope left : Option (Scope H)) (first after : Option (Dynamic H)) →
      Type 0
  LentTold of_method this scope left first after =
      EndsChanged rules (dispatch_core rules.setting (by_name of_method (is_some scope)) (on_place operation true first rest))
      (state_of t g (unwrap_or scope variables) (with_place this first)) r (state_of u h (unwrap_or left variables) (with_place this after))

  -- with one by value
  abbrev pub ValueTold : (held : Held H) (scope left : Option (Scope H)) (first : Option (Dynamic H)) → Type 0
  ValueTold held scope left first =
      EndsChanged rules (dispatch_core rules.setting (by_name false (is_some scope)) (by_value operation first rest))
      (state_of t g (unwrap_or scope variables) held) r (state_of u h (unwrap_or left variables) held)

  -- what it keeps
  abbrev pub KeptTold : (held : Held H) (scope left : Option (Scope H)) → Type 0
  KeptTold held scope left = Kept rules (state_of t g (unwrap_or scope variables) held) (state_of u h (unwrap_or left variables) held)

  module _ (scope left was_there is_left : Option (Scope H)) (is : scope ≡ was_there) (leaves : left ≡ is_left) where
    pub lent_told : (of_method : Bool) (this : Option (Dynamic H)) (first after v w : Option (Dynamic H)) → first ≡ v → after ≡ w →
        LentTold of_method this was_there is_left v w → LentTold of_method this scope left first after
    lent_told of_method this first after v w begins ends told = rw (is, leaves, begins, ends) told

    pub value_told : (held : Held H) (first v : Option (Dynamic H)) → first ≡ v → ValueTold held was_there is_left v →
        ValueTold held scope left first
    value_told held first v begins told = rw (is, leaves, begins) told

    pub kept_told : (held : Held H) → KeptTold held was_there is_left → KeptTold held scope left
    kept_told held told = rw (is, leaves) told

-- the variables of a scope have their names again
pub names_told : {H : Type 0} (variables : Scope H) (scope left was_there is_left : Option (Scope H)) → scope ≡ was_there → left ≡ is_left →
    names_in (unwrap_or is_left variables) ≡ names_in (unwrap_or was_there variables) →
    names_in (unwrap_or left variables) ≡ names_in (unwrap_or scope variables)
names_told variables scope left was_there is_left is leaves told = rw (is, leaves) told
