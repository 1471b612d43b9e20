-- Calls whose first argument stands in a place of the caller, which the machine has as the value that a chain works on.
use Rattle.std.proofs.Common.{inl, inr}
use Rattle.std.specs.Borrow.{MutBor}
use Rattle.std.specs.Prelude.{◌⊎◌, Bool, true, false, List, [], ◌∷◌, Option, Some, None}
use Rattle.rhai_values.specs.declared.base.value.Dynamic.{Dynamic}
use Rattle.rhai_machine.specs.language.State.{Held}
use Rattle.rhai_machine.specs.language.Variables.{no_path}
use Rattle.rhai_machine.specs.language.Frames.{Operation, FromFocus, Call, Dispatch}
use Rattle.rhai_steps.specs.Lending.{passed_call}

-- what an optional place of the caller has as it is lent
abbrev pub loan_start : {A : Type 0} → Option (MutBor A) → Option A
loan_start None = None
loan_start (Some place) = Some place.now

-- what such a place has as its loan ends
abbrev pub left_of : {A : Type 0} → Unit {0} ⊎ ((MutBor A × Unit {0}) ⊎ ⊥) → Option A
left_of (inl _) = None
left_of (inr (inl place)) = Some place.0.now
left_of (inr (inr never)) = None

-- how a call by name is dispatched, which may be a method's, and may run a function on a scope
abbrev pub by_name : (of_method on_scope : Bool) → Dispatch
by_name of_method on_scope = record { of_method = of_method; natives_alone = false; on_scope = on_scope; path = no_path }

module _ {H : Type 0} where
  -- `this` in hand, and a value at which the call works
  abbrev pub with_place : (this place : Option (Dynamic H)) → Held H
  with_place this place = record { this = this; focus = place }

  -- a call that says whether it changed its first argument, on a value in such a place or without arguments
  abbrev pub on_place : Operation → (guarded : Bool) → (first : Option (Dynamic H)) → (rest : List (Dynamic H)) → Call H
  on_place operation guarded (Some v) rest = passed_call operation (Some FromFocus) guarded true (v ∷ rest)
  on_place operation guarded None rest = passed_call operation None false true []

  -- the same with the value by itself
  abbrev pub by_value : Operation → (first : Option (Dynamic H)) → (rest : List (Dynamic H)) → Call H
  by_value operation (Some v) rest = passed_call operation None false true (v ∷ rest)
  by_value operation None rest = passed_call operation None false true []
