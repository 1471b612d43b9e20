-- A value that is lent from its entry and goes back there.
use Rattle.std.proofs.Common.{◌≡◌, ℕ, zero, suc, List, [], ◌∷◌, map, Option, Some, None, slice_get, slice_set, refl, sym, ap}
use Rattle.std.proofs.Common.{not, subst, ◌∙◌}
use Rattle.std.proofs.lemmas.List.{set-set}
use Rattle.std.proofs.lemmas.Option.{get_or_from_slice_get}
use Rattle.std.proofs.Math.Seq.{map-set_same}
use Rattle.rhai_values.specs.declared.base.value.Dynamic.{Dynamic}
use Rattle.rhai_state.specs.declared.scope.Scope.{Scope}
use Rattle.rhai_state.specs.declared.scope.ScopeEntry.{ScopeEntry}
use Rattle.rhai_lookups.specs.declared.run.RunState.{RunState}
use Rattle.rhai_state.specs.Scope.{entries_of, name_of, names_in, revalued}
use Rattle.rhai_steps.specs.States.{local_of, state_of}
use Rattle.rhai_machine.specs.language.Setting.{Rules}
use Rattle.rhai_machine.specs.language.State.{Held, State}
use Rattle.rhai_machine.specs.language.Frames.{FromEntry, Dispatch, Call}
use Rattle.rhai_machine.specs.language.Runs.{Goes}
use Rattle.rhai_machine.specs.language.Calls.{dispatch_core}
use Rattle.rhai_steps.specs.Lending.{back_in}
use Rattle.rhai_calls.specs.Called.{Outcome, came_out}

get_set : {A : Type 0} (xs : List A) (i : ℕ) (x y : A) → slice_get xs i ≡ Some x → slice_get (slice_set xs i y) i ≡ Some y
get_set [] i x y is = cc
get_set (z ∷ xs) zero x y is = refl
get_set (z ∷ xs) (suc i) x y is = get_set xs i x y is

module _ {H : Type 0} where
  -- of two values that are written to an entry the last one stays
  revalued_twice : (entries : List (ScopeEntry H)) (i : ℕ) (there : Option (ScopeEntry H)) (a b : Dynamic H) →
      slice_get entries i ≡ there →
      revalued (revalued entries i there b) i (slice_get (revalued entries i there b) i) a ≡ revalued entries i there a
  revalued_twice entries i None a b is = rw is refl
  revalued_twice entries i (Some entry) a b is =
      rw (get_set entries i entry (record entry { value = b }) is)
      (set-set entries i (record entry { value = b }) (record entry { value = a }))

  revalued_names : (entries : List (ScopeEntry H)) (i : ℕ) (there : Option (ScopeEntry H)) (v : Dynamic H) →
      slice_get entries i ≡ there → map name_of (revalued entries i there v) ≡ map name_of entries
  revalued_names entries i None v is = refl
  revalued_names entries i (Some entry) v is =
      map-set_same name_of entries i (record entry { value = v }) entry (sym (ap name_of (get_or_from_slice_get entries i entry entry is)))

  module _ (old mid new : Scope H) (i : ℕ) (u v : Dynamic H)
      (taken : entries_of mid ≡ revalued (entries_of old) i (slice_get (entries_of old) i) u)
      (given : entries_of new ≡ revalued (entries_of mid) i (slice_get (entries_of mid) i) v) where
    -- the scope keeps its names
    pub lent_names : names_in new ≡ names_in old
    lent_names =
        ap (map name_of) given ∙ revalued_names (entries_of mid) i (slice_get (entries_of mid) i) v refl
        ∙ ap (map name_of) taken ∙ revalued_names (entries_of old) i (slice_get (entries_of old) i) u refl

    -- and only that value has changed
    lent_entries : entries_of new ≡ revalued (entries_of old) i (slice_get (entries_of old) i) v
    lent_entries =
        given ∙ ap (λ (entries : List (ScopeEntry H)). revalued entries i (slice_get entries i) v) taken
        ∙ revalued_twice (entries_of old) i (slice_get (entries_of old) i) v u refl

    lent_state : {S : Type 0} (t : S) (global : RunState H) (held : Held H) →
        back_in (Some (FromEntry i)) v (state_of t global old held) ≡ state_of t global new held
    lent_state t global held =
        ap (λ (entries : List (ScopeEntry H)). record (state_of t global old held) {
          local = record (local_of global old held) { scope = entries };
        }) (sym lent_entries)

    pub lent_runs : {S : Type 0} (rules : Rules S H) (how : Dispatch) (call : Call H) (start : State S H) (called : Outcome H) (t : S)
        (global : RunState H) (held : Held H) →
        Goes rules (dispatch_core rules.setting how call) start (came_out (not how.on_scope) call.operation.at called)
        (back_in (Some (FromEntry i)) v (state_of t global old held)) →
        Goes rules (dispatch_core rules.setting how call) start (came_out (not how.on_scope) call.operation.at called)
        (state_of t global new held)
    lent_runs {S} rules how call start called t global held =
        subst (λ (s : State S H).
        Goes rules (dispatch_core rules.setting how call) start (came_out (not how.on_scope) call.operation.at called) s)
        (lent_state t global held)
