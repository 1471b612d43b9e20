-- A first argument that is lent, and what it is lent from.
use Rattle.std.proofs.Common.{◌≡◌, ℕ, zero, suc, ◌<◌, Bool, true, false, not, List, [], ◌∷◌, length, slice_get, slice_set, Option, Some}
use Rattle.std.proofs.Common.{None}
use Rattle.std.proofs.Common.{Ok, Err, arith, is_some, refl, subst, sym, ap, ◌∙◌}
use Rattle.std.proofs.lemmas.List.{set-set}
use Rattle.std.proofs.lemmas.Option.{slice_get_within}
use Rattle.std.proofs.Math.Seq.{lt-length-set}
use Rattle.std.specs.Option.{option_flatten, option_map}
use Rattle.rhai_tree.specs.declared.literal.NativeId.{NativeId}
use Rattle.rhai_values.specs.declared.base.value.CellId.{CellId}
use Rattle.rhai_values.specs.declared.base.value.Dynamic.{Dynamic}
use Rattle.rhai_values.specs.declared.base.value.Union.{Union}
use Rattle.rhai_values.specs.declared.base.value.Union.TheVariants as value
use Rattle.rhai_values.specs.Cells.{value_of_cell, with_held, with_value, IsNoHandle}
use Rattle.rhai_values.specs.TypeNames.{own_type_name, union_type_name}
use Rattle.rhai_state.specs.declared.scope.ScopeEntry.{ScopeEntry}
use Rattle.rhai_errors.specs.declared.error.EvalAltResult.TheVariants as error
use Rattle.rhai_state.specs.Scope.{revalued, value_of}
use Rattle.rhai_machine.specs.language.State.{State, Local}
use Rattle.rhai_machine.specs.language.Values.{Cells, is_handle}
use Rattle.rhai_machine.specs.language.Places.{Place, InEntry, InCell, InThis, InFocus, rebound}
use Rattle.rhai_machine.specs.language.Frames.{Operation, Lender, FromEntry, FromThis, FromFocus}
use Rattle.rhai_machine.specs.language.Calls.{first_in, in_cell, lendable, place_of, put_left, while_from}
use Rattle.rhai_steps.specs.Lending.{back_in, Stands}
use Rattle.rhai_calls.specs.Natives.{cell_in, lends_from, native_number, StandsAt}

-- ---- what is written over itself stays

set_same : {A : Type 0} (xs : List A) (i : ℕ) (x : A) → slice_get xs i ≡ Some x → slice_set xs i x ≡ xs
set_same [] i x is = cc
set_same (z ∷ xs) zero x is = let same : x ≡ z = cc in ap (λ y. y ∷ xs) same
set_same (z ∷ xs) (suc i) x is = ap (λ ys. z ∷ ys) (set_same xs i x is)

get_set : {A : Type 0} (xs : List A) (i : ℕ) (y : A) → i < length xs → slice_get (slice_set xs i y) i ≡ Some y
get_set [] i y within = absurd (omega (arith, within))
get_set (z ∷ xs) zero y within = refl
get_set (z ∷ xs) (suc i) y within = get_set xs i y (omega (arith, within))

not_false : (b : Bool) → not b ≡ false → b ≡ true
not_false true is = refl
not_false false is = cc

not_true : (b : Bool) → not b ≡ true → b ≡ false
not_true true is = cc
not_true false is = refl

-- a call is by a number where one is given
pub number_same : (id : Option NativeId) → is_some id ≡ is_some (native_number id)
number_same None = refl
number_same (Some id) = refl

module _ {H : Type 0} where
  entries_same : (entries : List (ScopeEntry H)) (i : ℕ) (there : Option (ScopeEntry H)) (v : Dynamic H) → slice_get entries i ≡ there →
      option_map value_of there ≡ Some v → revalued entries i there v ≡ entries
  entries_same entries i None v is stands = refl
  entries_same entries i (Some entry) v is stands =
      let same : v ≡ entry.value = cc in
      ap (λ (w : Dynamic H). slice_set entries i (record entry { value = w })) same ∙ set_same entries i entry is

  cells_same : (cells : Cells H) (n : ℕ) (there : Option (Option (Dynamic H))) (v : Dynamic H) → slice_get cells n ≡ there →
      option_flatten there ≡ Some v → with_value cells n v ≡ cells
  cells_same cells n None v is stands = cc
  cells_same cells n (Some cell) v is stands = let same : cell ≡ Some v = stands in set_same cells n (Some v) (is ∙ ap Some same)

  -- a value that goes back as it was lent changes nothing
  pub put_same : (from : Option Place) (v : Dynamic H) (l : Local H) → StandsAt from v l → put_left from (Some v) l ≡ l
  put_same None v l stands = refl
  put_same (Some (InEntry i)) v l stands =
      ap (λ (entries : List (ScopeEntry H)). record l { scope = entries }) (entries_same l.scope i (slice_get l.scope i) v refl stands)
  put_same (Some (InCell n)) v l stands =
      ap (λ (cells : Cells H). record l { around = record l.around { cells = cells } })
      (cells_same l.around.cells n (slice_get l.around.cells n) v refl stands)
  put_same (Some InThis) v l stands =
      ap (λ (this : Option (Dynamic H)). record l { this = rebound v this }) stands
      ∙ ap (λ (this : Option (Dynamic H)). record l { this = this }) (sym stands)
  put_same (Some InFocus) v l stands = ap (λ (focus : Option (Dynamic H)). record l { focus = focus }) (sym stands)

  -- where it is lent from is such a place
  pub stands_at : (lender : Option Lender) (v : Dynamic H) (l : Local H) → Stands lender v l → StandsAt (option_map place_of lender) v l
  stands_at None v l stands = tt
  stands_at (Some (FromEntry i)) v l stands = stands
  stands_at (Some FromThis) v l stands = stands
  stands_at (Some FromFocus) v l stands = stands

  pub while_lender : (lender : Option Lender) (cells : Cells H) → cells ≡ while_from (option_map place_of lender) cells
  while_lender None cells = refl
  while_lender (Some (FromEntry i)) cells = refl
  while_lender (Some FromThis) cells = refl
  while_lender (Some FromFocus) cells = refl

  -- which leaves the cells as they are
  pub back_lender : (lender : Option Lender) (v : Dynamic H) (l : Local H) →
      l.around.cells ≡ (put_left (option_map place_of lender) (Some v) l).around.cells
  back_lender None v l = refl
  back_lender (Some (FromEntry i)) v l = refl
  back_lender (Some FromThis) v l = refl
  back_lender (Some FromFocus) v l = refl

  pub back_is : {S : Type 0} (lender : Option Lender) (v : Dynamic H) (s : State S H) →
      record s { local = put_left (option_map place_of lender) (Some v) s.local } ≡ back_in lender v s
  back_is None v s = refl
  back_is (Some lender) v s = refl

  pub back_same : {S : Type 0} (lender : Option Lender) (v : Dynamic H) (s : State S H) → Stands lender v s.local → back_in lender v s ≡ s
  back_same {S} lender v s stands =
      sym (back_is lender v s)
      ∙ ap (λ (l : Local H). record s { local = l }) (put_same (option_map place_of lender) v s.local (stands_at lender v s.local stands))

  -- ---- what a first argument is lent as

  pub no_handle : (u : Union H) → is_handle u ≡ false → IsNoHandle u
  no_handle (value.Cell id) h = cc
  no_handle _ h = tt

  pub handle_none : (u : Union H) → IsNoHandle u → is_handle u ≡ false
  handle_none (value.Cell id) h = absurd h
  handle_none _ h = refl

  pub none_handle : (u : Union H) → cell_in u ≡ None → is_handle u ≡ false
  none_handle (value.Cell id) h = cc
  none_handle _ h = refl

  pub cell_found : (u : Union H) (id : CellId) → cell_in u ≡ Some id → u ≡ value.Cell id
  cell_found (value.Cell n) id is = let same : n ≡ id = cc in ap (λ (m : CellId). value.Cell m) same
  cell_found _ id is = cc

  -- what is no handle has its own type
  pub own_named : (host : H → List ℕ) (cells : Cells H) (u : Union H) → is_handle u ≡ false →
      union_type_name host cells u ≡ own_type_name host u
  own_named host cells (value.Cell id) h = cc
  own_named host cells _ h = refl

  -- a value that is no handle is lent from its place
  pub first_plain : (cells : Cells H) (operation : Operation) (lender : Option Lender) (u : Union H) (x : Dynamic H) → is_handle u ≡ false →
      first_in cells operation lender u x ≡ Ok (record { from = option_map place_of lender; value = x })
  first_plain cells operation lender (value.Cell id) x h = cc
  first_plain cells operation lender _ x h = refl

  lent_plain : (operation : Operation) (n : ℕ) (u : Union H) (v : Dynamic H) → is_handle u ≡ false →
      lendable operation (Some (InCell n)) u v ≡ Ok (record { from = Some (InCell n); value = v })
  lent_plain operation n (value.Cell id) v h = cc
  lent_plain operation n _ v h = refl

  lent_handle : (operation : Operation) (n : ℕ) (u : Union H) (v : Dynamic H) → is_handle u ≡ true →
      lendable operation (Some (InCell n)) u v ≡ Err (error.ErrorDataRace operation.name operation.at)
  lent_handle operation n (value.Cell id) v h = refl
  lent_handle operation n _ v h = cc

  -- a handle stands for the value of its cell
  pub first_cell : (cells : Cells H) (operation : Operation) (lender : Option Lender) (u : Union H) (x v : Dynamic H) (id : CellId) →
      u ≡ value.Cell id → value_of_cell cells id.number ≡ Some v → is_handle v.value ≡ false →
      first_in cells operation lender u x ≡ Ok (record { from = Some (InCell id.number); value = v })
  first_cell cells operation lender u x v id is there plain =
      ap (λ (w : Union H). first_in cells operation lender w x) is
      ∙ ap (λ (o : Option (Dynamic H)). in_cell operation id.number o) there ∙ lent_plain operation id.number v.value v plain

  held : (operation : Operation) (n : ℕ) (o : Option (Dynamic H)) → lends_from o ≡ false →
      in_cell operation n o ≡ Err (error.ErrorDataRace operation.name operation.at)
  held operation n None lends = refl
  held operation n (Some v) lends = lent_handle operation n v.value v (not_false (is_handle v.value) lends)

  pub first_held : (cells : Cells H) (operation : Operation) (lender : Option Lender) (u : Union H) (x : Dynamic H) (id : CellId) →
      u ≡ value.Cell id → lends_from (value_of_cell cells id.number) ≡ false →
      first_in cells operation lender u x ≡ Err (error.ErrorDataRace operation.name operation.at)
  first_held cells operation lender u x id is lends =
      ap (λ (w : Union H). first_in cells operation lender w x) is ∙ held operation id.number (value_of_cell cells id.number) lends

  -- what is lent from a cell is no handle
  lends_plain : (o : Option (Dynamic H)) (v : Dynamic H) → o ≡ Some v → lends_from o ≡ true → is_handle v.value ≡ false
  lends_plain o v is lends = not_true (is_handle v.value) (ap lends_from (sym is) ∙ lends)

  pub cell_plain : (cells : Cells H) (n : ℕ) (v : Dynamic H) → value_of_cell cells n ≡ Some v →
      lends_from (value_of_cell cells n) ≡ true → is_handle v.value ≡ false
  cell_plain cells n v is lends = lends_plain (value_of_cell cells n) v is lends

  pub cell_there : (o : Option (Dynamic H)) → o ≡ None → lends_from o ≡ true → ⊥
  cell_there o is lends = let never : false ≡ true = ap lends_from (sym is) ∙ lends in absurd (cc never)

  -- a cell that has a value is there while it is held
  known : (cells : Cells H) (n : ℕ) (there : Option (Option (Dynamic H))) (v : Dynamic H) → slice_get cells n ≡ there →
      option_flatten there ≡ Some v → n < length cells
  known cells n None v is stands = cc
  known cells n (Some cell) v is stands = slice_get_within cells n cell is

  pub in_held : (cells : Cells H) (n : ℕ) (v : Dynamic H) → value_of_cell cells n ≡ Some v → n < length (with_held cells n)
  in_held cells n v is = lt-length-set cells n None (known cells n (slice_get cells n) v refl is)

  -- what is given back to a held cell stands there
  pub comes_back : (before meanwhile : Cells H) (n : ℕ) (v w : Dynamic H) → n < length (with_held before n) →
      meanwhile ≡ with_held before n → Some w ≡ value_of_cell (with_value meanwhile n v) n → w ≡ v
  comes_back before meanwhile n v w there is comes =
      let within : n < length meanwhile = subst (λ (cells : Cells H). n < length cells) (sym is) there in
      let found : Some w ≡ Some v = comes ∙ ap option_flatten (get_set meanwhile n (Some v) within) in
      cc

  pub cells_back : (cells : Cells H) (n : ℕ) (v : Dynamic H) → with_value (with_held cells n) n v ≡ with_value cells n v
  cells_back cells n v = set-set cells n None (Some v)
