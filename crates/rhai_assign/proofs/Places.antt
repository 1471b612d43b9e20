-- What stands at the place of a variable, and what is written there.
use Rattle.std.proofs.Common.{◌≡◌, ℕ, zero, suc, List, [], ◌∷◌, map, Option, Some, None, unwrap_or, refl, sym}
use Rattle.std.proofs.Common.{ap, ◌∙◌, slice_get, slice_set}
use Rattle.std.proofs.lemmas.List.{set-set}
use Rattle.std.proofs.lemmas.Option.{get_or_from_slice_get}
use Rattle.std.proofs.Math.Seq.{map-set_same}
use Rattle.rhai_values.specs.declared.base.value.Dynamic.{Dynamic}
use Rattle.rhai_state.specs.declared.scope.Scope.{Scope}
use Rattle.rhai_state.specs.declared.scope.ScopeEntry.{ScopeEntry}
use Rattle.rhai_values.specs.declared.cells.CellStore.{CellStore}
use Rattle.rhai_lookups.specs.declared.run.RunState.{RunState}
use Rattle.rhai_values.specs.Cells.{cells_of}
use Rattle.rhai_state.specs.Scope.{name_of, entries_of, names_in, revalued}
use Rattle.rhai_machine.specs.language.State.{Held}
use Rattle.rhai_machine.specs.language.Values.{Cells, unit_value}
use Rattle.rhai_machine.specs.language.Places.{Place, InEntry, InCell, InThis, InFocus, put}
use Rattle.rhai_steps.specs.States.{local_of}
use Rattle.rhai_assign.specs.declared.place.Place as code
use Rattle.rhai_assign.specs.declared.place.Place.TheVariants as place
use Rattle.rhai_assign.specs.Targets.{there, standing, IsPut, entries_put, cells_put, place_in}

module _ {A : Type 0} where
  pub get_set : (xs : List A) (i : ℕ) (x y : A) → slice_get xs i ≡ Some x → slice_get (slice_set xs i y) i ≡ Some y
  get_set [] i x y is = cc
  get_set (z ∷ xs) zero x y is = refl
  get_set (z ∷ xs) (suc i) x y is = get_set xs i x y is

module _ {H : Type 0} where
  -- of two values that are written to a place the last one stays
  pub revalued_twice : (entries : List (ScopeEntry H)) (i : ℕ) (entry_at : Option (ScopeEntry H)) (a b : Dynamic H) →
      slice_get entries i ≡ entry_at →
      revalued (revalued entries i entry_at b) i (slice_get (revalued entries i entry_at b) i) a ≡ revalued entries i entry_at a
  revalued_twice entries i None a b is = rw is refl
  revalued_twice entries i (Some entry) a b is =
      rw (get_set entries i entry (record entry { value = b }) is)
      (set-set entries i (record entry { value = b }) (record entry { value = a }))

  -- what stands at a place
  pub standing_is : (place : Place) (v : Dynamic H) (entries : List (ScopeEntry H)) (cells : Cells H) → there place entries cells ≡ Some v →
      standing place entries cells ≡ v
  standing_is place v entries cells is = ap (λ (o : Option (Dynamic H)). unwrap_or o unit_value) is

  -- the scope keeps its names
  revalued_names : (entries : List (ScopeEntry H)) (i : ℕ) (entry_at : Option (ScopeEntry H)) (v : Dynamic H) →
      slice_get entries i ≡ entry_at →
      map name_of (revalued entries i entry_at v) ≡ map name_of entries
  revalued_names entries i None v is = refl
  revalued_names entries i (Some entry) v is =
      map-set_same name_of entries i (record entry { value = v }) entry (sym (ap name_of (get_or_from_slice_get entries i entry entry is)))

  pub names_put : (place : Place) (v : Dynamic H) (entries : List (ScopeEntry H)) →
      map name_of (entries_put place v entries) ≡ map name_of entries
  names_put (InEntry i) v entries = revalued_names entries i (slice_get entries i) v refl
  names_put (InCell n) v entries = refl
  names_put InThis v entries = refl
  names_put InFocus v entries = refl

  pub keeps_names : (place : code.Place) (v : Dynamic H) (before after : Scope H) (old new : CellStore H) →
      IsPut place v before after old new →
      names_in after ≡ names_in before
  keeps_names place v before later old new wrote = ap (map name_of) wrote.entries ∙ names_put (place_in place) v (entries_of before)

  -- the state once a value is written
  local_at : (place : code.Place) (v : Dynamic H) (g : RunState H) (store : CellStore H) (before after : Scope H)
      (held : Held H) →
      entries_of after ≡ entries_put (place_in place) v (entries_of before) →
      cells_of store ≡ cells_put (place_in place) v (cells_of g.cells) →
      local_of (record g { cells = store }) after held ≡ put (place_in place) v (local_of g before held)
  local_at (place.InEntry i) v g store before later held e c = rw (e, c) refl
  local_at (place.InCell n) v g store before later held e c = rw (e, c) refl

  pub local_put : (place : code.Place) (v : Dynamic H) (g : RunState H) (store : CellStore H) (before after : Scope H)
      (held : Held H) →
      IsPut place v before after g.cells store →
      local_of (record g { cells = store }) after held ≡ put (place_in place) v (local_of g before held)
  local_put place v g store before later held wrote = local_at place v g store before later held wrote.entries wrote.cells
