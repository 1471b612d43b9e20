-- What is written to a place: the last value alone stays, the value that is there changes nothing, and the scope keeps its names.
use Rattle.std.proofs.Common.{refl, sym, ap, ◌∙◌}
use Rattle.std.specs.Option.{option_map, option_flatten}
use Rattle.std.specs.Prelude.{◌≡◌, ℕ, zero, suc, Bool, true, false, ◌||◌, List, [], ◌∷◌, map, Option, Some, None, Result, Ok, Err}
use Rattle.std.specs.Prelude.{slice_get, slice_set}
use Rattle.rhai_tree.specs.declared.position.Position.{Position}
use Rattle.rhai_values.specs.declared.base.value.AccessMode.{AccessMode}
use Rattle.rhai_values.specs.declared.base.value.AccessMode.TheVariants.{ReadWrite, ReadOnly}
use Rattle.rhai_values.specs.declared.base.value.Dynamic.{Dynamic}
use Rattle.rhai_values.specs.declared.base.value.Union.{Union}
use Rattle.rhai_values.specs.declared.base.value.Union.TheVariants as value
use Rattle.rhai_state.specs.declared.scope.ScopeEntry.{ScopeEntry}
use Rattle.rhai_errors.specs.declared.error.EvalAltResult.{EvalAltResult}
use Rattle.rhai_values.specs.Cells.{value_of_cell}
use Rattle.rhai_state.specs.Scope.{name_of, value_of, value_in, index_of, found, revalued}
use Rattle.rhai_machine.specs.language.Setting.{Globals}
use Rattle.rhai_machine.specs.language.State.{Local}
use Rattle.rhai_machine.specs.language.Variables.{Variable}
use Rattle.rhai_machine.specs.language.Names.{Meaning, AtEntry, AsTemporary, meant}
use Rattle.rhai_machine.proofs.MeantLaws.{meant_entry}
use Rattle.rhai_machine.specs.language.Values.{Cells}
use Rattle.rhai_machine.specs.language.Places.{Place, InEntry, InCell, InThis, InFocus, Target, target, is_constant, unless_constant}
use Rattle.rhai_machine.specs.language.Places.{target_in_cell, target_at, target_meant, target_of, focus_in_cell, this_at, this_target}
use Rattle.rhai_machine.specs.language.Places.{rebound, put}

module _ {A : Type 0} where
  -- the last of two items at an index stays
  set_twice : (xs : List A) (i : ℕ) (a b : A) → slice_set (slice_set xs i b) i a ≡ slice_set xs i a
  set_twice [] i a b = refl
  set_twice (x ∷ xs) zero a b = refl
  set_twice (x ∷ xs) (suc i) a b = ap (λ ys. x ∷ ys) (set_twice xs i a b)

  -- an item that is there again
  set_same : (xs : List A) (i : ℕ) (x : A) → slice_get xs i ≡ Some x → slice_set xs i x ≡ xs
  set_same [] i x is = refl
  set_same (y ∷ xs) zero x is = let same : y ≡ x = cc in ap (λ z. z ∷ xs) (sym same)
  set_same (y ∷ xs) (suc i) x is = ap (λ ys. y ∷ ys) (set_same xs i x is)

  get_set : (xs : List A) (i : ℕ) (x y : A) → slice_get xs i ≡ Some x → slice_get (slice_set xs i y) i ≡ Some y
  get_set [] i x y is = cc
  get_set (z ∷ xs) zero x y is = refl
  get_set (z ∷ xs) (suc i) x y is = get_set xs i x y is

  -- what an item says of itself, where the new item says the same
  map_set : {B : Type 0} (f : A → B) (xs : List A) (i : ℕ) (x y : A) → slice_get xs i ≡ Some x → f y ≡ f x →
      map f (slice_set xs i y) ≡ map f xs
  map_set f [] i x y is same = refl
  map_set f (z ∷ xs) zero x y is same = let here : z ≡ x = cc in ap (λ w. w ∷ map f xs) (same ∙ ap f (sym here))
  map_set f (z ∷ xs) (suc i) x y is same = ap (λ ws. f z ∷ ws) (map_set f xs i x y is same)

module _ {H : Type 0} where
  revalued_twice : (entries : List (ScopeEntry H)) (i : ℕ) (there : Option (ScopeEntry H)) (a b : Dynamic H) → slice_get entries i ≡ there →
      revalued (revalued entries i there b) i (slice_get (revalued entries i there b) i) a ≡ revalued entries i there a
  revalued_twice entries i None a b is = rw is refl
  revalued_twice entries i (Some entry) a b is =
      rw (get_set entries i entry (record entry { value = b }) is)
      (set_twice entries i (record entry { value = a }) (record entry { value = b }))

  rebound_twice : (this : Option (Dynamic H)) (a b : Dynamic H) → rebound a (rebound b this) ≡ rebound a this
  rebound_twice (Some v) a b = refl
  rebound_twice None a b = refl

  -- of two values that are written to a place the last one stays
  pub put_twice : (place : Place) (a b : Dynamic H) (l : Local H) → put place a (put place b l) ≡ put place a l
  put_twice (InEntry i) a b l = ap (λ (scope : List (ScopeEntry H)). record l { scope = scope })
      (revalued_twice l.scope i (slice_get l.scope i) a b refl)
  put_twice (InCell n) a b l = ap (λ (cells : Cells H). record l { around = record l.around { cells = cells } })
      (set_twice l.around.cells n (Some a) (Some b))
  put_twice InThis a b l = ap (λ (this : Option (Dynamic H)). record l { this = this }) (rebound_twice l.this a b)
  put_twice InFocus a b l = refl

  revalued_names : (entries : List (ScopeEntry H)) (i : ℕ) (there : Option (ScopeEntry H)) (v : Dynamic H) → slice_get entries i ≡ there →
      map name_of (revalued entries i there v) ≡ map name_of entries
  revalued_names entries i None v is = refl
  revalued_names entries i (Some entry) v is = map_set name_of entries i entry (record entry { value = v }) is refl

  -- the scope keeps its names
  pub put_names : (place : Place) (v : Dynamic H) (l : Local H) → map name_of (put place v l).scope ≡ map name_of l.scope
  put_names (InEntry i) v l = revalued_names l.scope i (slice_get l.scope i) v refl
  put_names (InCell n) v l = refl
  put_names InThis v l = refl
  put_names InFocus v l = refl

  revalued_same : (entries : List (ScopeEntry H)) (i : ℕ) (there : Option (ScopeEntry H)) (v : Dynamic H) → slice_get entries i ≡ there →
      option_map value_of there ≡ Some v → revalued entries i there v ≡ entries
  revalued_same entries i None v is same = refl
  revalued_same entries i (Some entry) v is same = let here : entry.value ≡ v = cc in rw (← here) (set_same entries i entry is)

  entry_there : (i : ℕ) (v : Dynamic H) (l : Local H) → value_in l.scope (Some i) ≡ Some v → put (InEntry i) v l ≡ l
  entry_there i v l is = ap (λ (scope : List (ScopeEntry H)). record l { scope = scope })
      (revalued_same l.scope i (slice_get l.scope i) v refl is)

  cell_same : (cells : Cells H) (n : ℕ) (there : Option (Option (Dynamic H))) (v : Dynamic H) → slice_get cells n ≡ there →
      option_flatten there ≡ Some v → slice_set cells n (Some v) ≡ cells
  cell_same cells n None v is same = cc
  cell_same cells n (Some None) v is same = cc
  cell_same cells n (Some (Some w)) v is same = let here : w ≡ v = cc in rw (← here) (set_same cells n (Some w) is)

  cell_there : (n : ℕ) (v : Dynamic H) (l : Local H) → value_of_cell l.around.cells n ≡ Some v → put (InCell n) v l ≡ l
  cell_there n v l is = ap (λ (cells : Cells H). record l { around = record l.around { cells = cells } })
      (cell_same l.around.cells n (slice_get l.around.cells n) v refl is)

  rebound_same : (this : Option (Dynamic H)) (v : Dynamic H) → this ≡ Some v → rebound v this ≡ this
  rebound_same (Some w) v is = sym is
  rebound_same None v is = cc

  this_same : (v : Dynamic H) (l : Local H) → l.this ≡ Some v → put InThis v l ≡ l
  this_same v l is = ap (λ (this : Option (Dynamic H)). record l { this = this }) (rebound_same l.this v is)

  not_constant : (b : Bool) (name : List ℕ) (pos : Position) (p t : Target H) → unless_constant b name pos p ≡ Ok t → p ≡ t
  not_constant true name pos p t is = cc
  not_constant false name pos p t is = cc

  module _ (name : List ℕ) (pos : Position) (l : Local H) (t : Target H) where
    in_cell_there : (mode : AccessMode) (n : ℕ) (there : Option (Dynamic H)) → value_of_cell l.around.cells n ≡ there →
        target_in_cell name pos mode n there ≡ Ok t → put t.place t.value l ≡ l
    in_cell_there mode n (Some v) is ok =
        let same = not_constant (is_constant mode || is_constant v.mode) name pos (target (InCell n) v) t ok in
        rw (← same) (cell_there n v l is)
    in_cell_there mode n None is ok = cc

    at_there : (i : ℕ) (u : Union H) (v : Dynamic H) → value_in l.scope (Some i) ≡ Some v →
        target_at l.around.cells name pos i u v ≡ Ok t → put t.place t.value l ≡ l
    at_there i (value.Cell id) v is ok = in_cell_there v.mode id.number (value_of_cell l.around.cells id.number) refl ok
    at_there i _ v is ok =
        let same = not_constant (is_constant v.mode) name pos (target (InEntry i) v) t ok in
        rw (← same) (entry_there i v l is)

    meant_there : (r : Result (Meaning H) (EvalAltResult H)) →
        ((i : ℕ) (v : Dynamic H) → r ≡ Ok (AtEntry i v) → value_in l.scope (Some i) ≡ Some v) →
        target_meant l.around.cells name pos r ≡ Ok t → put t.place t.value l ≡ l
    meant_there (Ok (AtEntry i v)) there ok = at_there i v.value v (there i v refl) ok
    meant_there (Ok (AsTemporary v)) there ok = cc
    meant_there (Err e) there ok = cc

  -- the value that is there already changes nothing
  pub put_there : (globals : Globals H) (variable : Variable) (l : Local H) (t : Target H) →
      target_of globals l.around l.scope variable ≡ Ok t → put t.place t.value l ≡ l
  put_there globals variable l t is = meant_there variable.name variable.at l t (meant globals l.around l.scope variable) (λ i v means.
      let parts = meant_entry globals l.around l.scope i v variable means in
      sym (ap (value_in l.scope) parts.0) ∙ parts.1) is

  module _ (pos : Position) (l : Local H) (t : Target H) where
    this_cell_there : (mode : AccessMode) (n : ℕ) (there : Option (Dynamic H)) → value_of_cell l.around.cells n ≡ there →
        focus_in_cell [] pos mode n there ≡ Ok t → put t.place t.value l ≡ l
    this_cell_there mode n (Some v) is ok =
        let same = not_constant (is_constant mode || is_constant v.mode) [] pos (target (InCell n) v) t ok in
        rw (← same) (cell_there n v l is)
    this_cell_there ReadOnly n None is ok = cc
    this_cell_there ReadWrite n None is ok = cc

    this_value_there : (u : Union H) (v : Dynamic H) → l.this ≡ Some v → this_at l.around.cells pos u v ≡ Ok t →
        put t.place t.value l ≡ l
    this_value_there (value.Cell id) v is ok = this_cell_there v.mode id.number (value_of_cell l.around.cells id.number) refl ok
    this_value_there _ v is ok =
        let same = not_constant (is_constant v.mode) [] pos (target InThis v) t ok in
        rw (← same) (this_same v l is)

    bound_there : (this : Option (Dynamic H)) → l.this ≡ this → this_target l.around.cells pos this ≡ Ok t → put t.place t.value l ≡ l
    bound_there (Some v) is ok = this_value_there v.value v is ok
    bound_there None is ok = cc

    -- and so it is with `this`
    pub this_there : this_target l.around.cells pos l.this ≡ Ok t → put t.place t.value l ≡ l
    this_there is = bound_there l.this refl is
