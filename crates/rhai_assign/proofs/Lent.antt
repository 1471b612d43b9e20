-- A target that is lent, and where the machine has it meanwhile.
use Rattle.std.proofs.Common.{◌≡◌, ℕ, zero, suc, true, false, not, ◌&&◌, List, [], ◌∷◌, map, Option, Some, None, Result, Ok}
use Rattle.std.proofs.Common.{is_some, slice_get, slice_set}
use Rattle.std.proofs.Common.{refl, sym, ap, ◌∙◌}
use Rattle.std.proofs.lemmas.List.{set-set}
use Rattle.std.specs.Option.{option_flatten, option_map}
use Rattle.rhai_values.specs.declared.base.value.AccessMode.{AccessMode}
use Rattle.rhai_values.specs.declared.base.value.AccessMode.TheVariants.{ReadWrite, ReadOnly}
use Rattle.rhai_values.specs.declared.base.value.CellId.{CellId}
use Rattle.rhai_values.specs.declared.base.value.Dynamic.{Dynamic}
use Rattle.rhai_values.specs.declared.base.value.Union.{Union}
use Rattle.rhai_values.specs.declared.base.value.Union.TheVariants as value
use Rattle.rhai_values.specs.declared.cells.CellStore.{CellStore}
use Rattle.rhai_values.specs.Cells.{IsHeld, cells_of, value_of_cell, with_held, with_value}
use Rattle.rhai_values.specs.TypeNames.{own_type_name, type_name_of, union_type_name}
use Rattle.rhai_state.specs.declared.scope.Scope.{Scope}
use Rattle.rhai_state.specs.declared.scope.ScopeEntry.{ScopeEntry}
use Rattle.rhai_lookups.specs.declared.run.RunState.{RunState}
use Rattle.rhai_errors.specs.declared.error.EvalAltResult.{EvalAltResult}
use Rattle.rhai_errors.specs.Native.{Natives, OfName}
use Rattle.rhai_state.specs.Scope.{entries_of, name_of, names_in, revalued, value_of}
use Rattle.rhai_machine.specs.language.State.{Held, Local}
use Rattle.rhai_machine.specs.language.Values.{Cells, is_handle, unit_value}
use Rattle.rhai_machine.specs.language.Places.{Place, InEntry, InCell, InThis, InFocus, is_barred, is_constant, put, rebound, while_lent}
use Rattle.rhai_machine.specs.language.Assignment.{written_core}
use Rattle.rhai_machine.specs.language.Frames.{Frame, Back, core}
use Rattle.rhai_steps.specs.States.{local_of, surroundings_of}
use Rattle.rhai_assign.specs.declared.place.Place as code
use Rattle.rhai_assign.specs.declared.place.Place.TheVariants as place
use Rattle.rhai_assign.specs.Targets.{IsPut, entries_put, own_cell, place_in, stands, value_standing_at}
use Rattle.rhai_assign.specs.Keeps.{Charges, KeepsHeld}
use Rattle.rhai_assign.specs.Lending.{cells_seen, IsFree, IsLentFrom, IsOwnCell}
use Rattle.rhai_assign.specs.Updates.{is_barred_for}
use Rattle.rhai_assign.proofs.Places.{get_set, keeps_names, names_put, revalued_twice}

-- what is written over itself stays
pub set_same : {A : Type 0} (xs : List A) (i : ℕ) (x : A) → slice_get xs i ≡ Some x → slice_set xs i x ≡ xs
set_same [] i x is = cc
set_same (z ∷ xs) zero x is = let same : x ≡ z = cc in ap (λ y. y ∷ xs) same
set_same (z ∷ xs) (suc i) x is = ap (λ ys. z ∷ ys) (set_same xs i x is)

-- the cell of a place is the one that its value is lent from
pub lent_from : (place : code.Place) → IsLentFrom (place_in place) (own_cell place)
lent_from (place.InEntry i) = refl
lent_from (place.InCell id) = refl

module _ {H : Type 0} where
  rebound_twice : (v w : Dynamic H) (this : Option (Dynamic H)) → rebound w (rebound v this) ≡ rebound w this
  rebound_twice v w None = refl
  rebound_twice v w (Some x) = refl

  -- of two values that are written to a place the last one stays
  pub put_twice : (place : Place) (v w : Dynamic H) (l : Local H) → put place w (put place v l) ≡ put place w l
  put_twice (InEntry i) v w l =
      ap (λ (entries : List (ScopeEntry H)). record l { scope = entries }) (revalued_twice l.scope i (slice_get l.scope i) w v refl)
  put_twice (InCell n) v w l = ap (λ (cells : Cells H). record l { around = record l.around { cells = cells } })
      (set-set l.around.cells n (Some v) (Some w))
  put_twice InThis v w l = ap (λ (this : Option (Dynamic H)). record l { this = this }) (rebound_twice v w l.this)
  put_twice InFocus v w l = refl

  held_again : (cells : Cells H) (n m : ℕ) (v : Dynamic H) → n ≡ m → IsHeld cells m → with_held (with_value cells n v) n ≡ cells
  held_again cells n m v same held =
      set-set cells n (Some v) None ∙ set_same cells n None (ap (λ (i : ℕ). slice_get cells i) same ∙ held)

  -- while the target is lent the cells of the machine are those of the code
  pub lent_cells : (place : Place) (cell : Option CellId) (v : Dynamic H) (l : Local H) → IsLentFrom place cell →
      IsOwnCell cell l.around.cells → while_lent place (put place v l).around.cells ≡ l.around.cells
  lent_cells (InEntry i) cell v l from own = refl
  lent_cells (InCell n) None v l from own = cc
  lent_cells (InCell n) (Some id) v l from own = let same : n ≡ id.number = cc in held_again l.around.cells n id.number v same own
  lent_cells InThis cell v l from own = refl
  lent_cells InFocus cell v l from own = refl

  -- and with the target back in its own cell they are those of the machine
  pub seen_cells : (place : Place) (cell : Option CellId) (v : Dynamic H) (l : Local H) → IsLentFrom place cell →
      cells_seen cell v l.around.cells ≡ (put place v l).around.cells
  seen_cells (InEntry i) None v l from = refl
  seen_cells (InEntry i) (Some id) v l from = cc
  seen_cells (InCell n) None v l from = cc
  seen_cells (InCell n) (Some id) v l from =
      let same : n ≡ id.number = cc in ap (λ (i : ℕ). with_value l.around.cells i v) (sym same)
  seen_cells InThis None v l from = refl
  seen_cells InThis (Some id) v l from = cc
  seen_cells InFocus None v l from = refl
  seen_cells InFocus (Some id) v l from = cc

  -- the store is as it was, once the target was back in its own cell and is lent again
  pub lent_again : (old seen new : CellStore H) (id : CellId) (v : Dynamic H) → IsOwnCell (Some id) (cells_of old) →
      cells_of seen ≡ with_value (cells_of old) id.number v → cells_of new ≡ with_held (cells_of seen) id.number → new ≡ old
  lent_again old seen new id v held gives takes = ap (λ cells. record { cells = cells })
      (takes ∙ ap (λ cells. with_held cells id.number) gives ∙ held_again (cells_of old) id.number id.number v refl held)

  -- and the target is what comes back
  pub back_again : (cells seen : Cells H) (id : CellId) (v w : Dynamic H) → IsOwnCell (Some id) cells →
      seen ≡ with_value cells id.number v → Some w ≡ value_of_cell seen id.number → w ≡ v
  back_again cells seen id v w held gives comes =
      let found : Some w ≡ Some v = comes ∙ ap (λ cells. value_of_cell cells id.number) gives
      ∙ ap option_flatten (get_set cells id.number None (Some v) held) in
      cc

  -- what is written to a target that is lent is written to its place
  pub wrote_lent : (r : Result (Dynamic H) (EvalAltResult H)) (x v w : Dynamic H) (place : Place) (k : List (Frame H)) (l : Local H) →
      Ok x ≡ r → w ≡ x → written_core r place k (put place v l) ≡ core (Back unit_value) k (put place w l)
  wrote_lent r x v w place k l is wrote =
      rw (← is, wrote) (ap (λ (l : Local H). core (Back unit_value) k l) (put_twice place v x l))

  -- what is no handle has its own type
  own_named : (host : H → List ℕ) (cells : Cells H) (u : Union H) → is_handle u ≡ false →
      union_type_name host cells u ≡ own_type_name host u
  own_named host cells (value.Cell id) h = cc
  own_named host cells _ h = refl

  module _ {S : Type 0} (host : H → List ℕ) (natives : Natives S H) (cells : Cells H) (t : S) (name : List ℕ) where
    barred_by : (mode : AccessMode) (u : Union H) → (is_constant mode ≡ true → is_handle u ≡ false) →
        (is_constant mode && not (natives.pure t (OfName name (union_type_name host cells u) 2)))
        ≡ (is_constant mode && not (natives.pure t (OfName name (own_type_name host u) 2)))
    barred_by ReadWrite u free = refl
    barred_by ReadOnly u free = ap (λ (type_name : List ℕ). not (natives.pure t (OfName name type_name 2)))
        (own_named host cells u (free refl))

    -- whether a native is barred from a target does not depend on the cells
    pub barred_alike : (v : Dynamic H) → IsFree v → is_barred (natives.pure t (OfName name (type_name_of host cells v) 2)) v
        ≡ is_barred_for host natives t name v
    barred_alike v free = barred_by v.mode v.value free

  -- ---- what is taken from a place of the code, and goes back

  entries_same : (entries : List (ScopeEntry H)) (i : ℕ) (at : Option (ScopeEntry H)) (v : Dynamic H) → slice_get entries i ≡ at →
      option_map value_of at ≡ Some v → revalued entries i at v ≡ entries
  entries_same entries i None v is stands = refl
  entries_same entries i (Some entry) v is stands =
      let same : v ≡ entry.value = cc in
      ap (λ (w : Dynamic H). slice_set entries i (record entry { value = w })) same ∙ set_same entries i entry is

  cells_same : (cells : Cells H) (n : ℕ) (at : Option (Option (Dynamic H))) (v : Dynamic H) → slice_get cells n ≡ at →
      option_flatten at ≡ Some v → with_value cells n v ≡ cells
  cells_same cells n None v is stands = cc
  cells_same cells n (Some cell) v is stands = let same : cell ≡ Some v = stands in set_same cells n (Some v) (is ∙ ap Some same)

  -- the value of a cell back in it is what was there
  pub cell_back : (cells : Cells H) (n : ℕ) (v : Dynamic H) → value_of_cell cells n ≡ Some v → with_value (with_held cells n) n v ≡ cells
  cell_back cells n v there = set-set cells n None (Some v) ∙ cells_same cells n (slice_get cells n) v refl there

  entry_back : (entries : List (ScopeEntry H)) (i : ℕ) (u v : Dynamic H) → option_map value_of (slice_get entries i) ≡ Some v →
      revalued (revalued entries i (slice_get entries i) u) i (slice_get (revalued entries i (slice_get entries i) u) i) v ≡ entries
  entry_back entries i u v there = revalued_twice entries i (slice_get entries i) v u refl
      ∙ entries_same entries i (slice_get entries i) v refl there

  -- with its value back at its place the state is as it was
  pub as_it_was : (place : code.Place) (v : Dynamic H) (g : RunState H) (store : CellStore H) (before mid : Scope H)
      (held : Held H) → value_standing_at place before g.cells ≡ Some v →
      entries_of mid ≡ entries_put (place_in place) unit_value (entries_of before) →
      cells_of store ≡ while_lent (place_in place) (cells_of g.cells) →
      put (place_in place) v (local_of (record g { cells = store }) mid held) ≡ local_of g before held
  as_it_was (place.InEntry i) v g store before mid held there e c = rw (e, c)
      (ap (λ (entries : List (ScopeEntry H)). record (local_of g before held) { scope = entries })
      (entry_back (entries_of before) i unit_value v there))
  as_it_was (place.InCell id) v g store before mid held there e c = rw (e, c)
      (ap (λ (cells : Cells H). record (local_of g before held) { around = record (surroundings_of g) { cells = cells } })
      (cell_back (cells_of g.cells) id.number v there))

  -- the scope keeps its names
  pub names_back : (place : code.Place) (v w : Dynamic H) (before mid later : Scope H) (old new : CellStore H) →
      entries_of mid ≡ entries_put (place_in place) v (entries_of before) → IsPut place w mid later old new →
      names_in later ≡ names_in before
  names_back place v w before mid later old new taken wrote =
      keeps_names place w mid later old new wrote ∙ ap (map name_of) taken ∙ names_put (place_in place) v (entries_of before)

  -- a cell that has a value is none of those that are held
  held_still : (cells : Cells H) (n m : ℕ) (w : Option (Dynamic H)) → is_some (value_of_cell cells n) ≡ true → IsHeld cells m →
      IsHeld (slice_set cells n w) m
  held_still [] n m w some held = cc
  held_still (cell ∷ cells) zero zero w some held = let none : cell ≡ None = cc in absurd (cc (ap is_some (sym none) ∙ some))
  held_still (cell ∷ cells) zero (suc m) w some held = held
  held_still (cell ∷ cells) (suc n) zero w some held = held
  held_still (cell ∷ cells) (suc n) (suc m) w some held = held_still cells n m w some held

  pub keeps_held : (old lent later : RunState H) (taken store : CellStore H) (id : CellId) (v w : Dynamic H) →
      value_of_cell (cells_of old.cells) id.number ≡ Some v → cells_of taken ≡ with_held (cells_of old.cells) id.number →
      Charges (record old { cells = taken }) lent → cells_of store ≡ with_value (cells_of lent.cells) id.number w →
      later ≡ record lent { cells = store } → KeepsHeld old later
  keeps_held old lent later taken store id v w there takes charges gives is = record {
    counts = rw is charges.counts;
    held = λ number held. rw (is, gives, charges.rest, takes, set-set (cells_of old.cells) id.number None (Some w))
        (held_still (cells_of old.cells) id.number number (Some w) (ap is_some there) held);
  }

  -- what is in a cell that may be changed
  pub one_value : (o : Option (Dynamic H)) (v w : Dynamic H) → o ≡ Some v → o ≡ Some w → v ≡ w
  one_value o v w is there = let same : Some v ≡ Some w = sym is ∙ there in cc
