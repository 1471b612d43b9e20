-- What is in a constant is a constant, and a value that goes back where it stood changes nothing.
use Rattle.std.proofs.Common.{◌≡◌, ℕ, zero, suc, List, [], ◌∷◌, map, refl, sym, ap, ◌∙◌, slice_get, slice_set}
use Rattle.std.specs.Prelude.{true, Option, Some, None}
use Rattle.rhai_values.specs.declared.base.value.AccessMode.{AccessMode}
use Rattle.rhai_values.specs.declared.base.value.AccessMode.TheVariants.{ReadOnly}
use Rattle.rhai_values.specs.declared.base.value.Dynamic.{Dynamic}
use Rattle.rhai_values.specs.declared.base.value.FnPtrKind.TheOpen as layer
use Rattle.rhai_values.specs.declared.base.value.FnPtrKind.TheBlock.{Row_of-Dynamic as Row, end_of-Dynamic as end, more_of-Dynamic as more}
use Rattle.rhai_values.specs.declared.base.value.FnPtrKind.TheBlock.{Row_of-Union-Array-0-1 as Array_row}
use Rattle.rhai_values.specs.declared.base.value.FnPtrKind.TheBlock.{end_of-Union-Array-0-1 as array_end}
use Rattle.rhai_values.specs.declared.base.value.FnPtrKind.TheBlock.{more_of-Union-Array-0-1 as array_more}
use Rattle.rhai_values.specs.declared.base.value.FnPtrKind.TheBlock.{Row_of-Union-Map-0-1 as Map_row, end_of-Union-Map-0-1 as map_end}
use Rattle.rhai_values.specs.declared.base.value.FnPtrKind.TheBlock.{more_of-Union-Map-0-1 as map_more}
use Rattle.rhai_values.specs.declared.base.value.Union.{Union, Array', Map', out-Union, roll-Union, roll-out-Union}
use Rattle.rhai_values.specs.declared.base.value.Union.TheVariants as value
use Rattle.rhai_values.specs.declared.base.value.Union.TheVariants.{rolls-Array, rolls-Map, outs-Array, outs-Map}
use Rattle.rhai_values.specs.Cells.{IsNoHandle}
use Rattle.rhai_values.specs.Layers.{UnionLayer, layer_of}
use Rattle.rhai_values.specs.Modes.{with_mode, union_with_mode, array_with_mode, map_with_mode, row_with_mode}
use Rattle.rhai_values.proofs.ModeLemmas.{mode-Array, mode-Map}
use Rattle.rhai_spots.specs.declared.spot.Spot.{Spot}
use Rattle.rhai_spots.specs.declared.spot.Spot.TheVariants as spot
use Rattle.rhai_spots.specs.Parts.{value_in, value_at, with_value_in, with_value, part_in, part_of}
use Rattle.rhai_machine.specs.language.Places.{is_constant}
use Rattle.rhai_constants.specs.Constants.{IsConstant}
use Rattle.rhai_constants.specs.Laws.{ConstIsConstant, ConstantIsReadOnly, ReadOnlyIsConstant}

set_same : {X : Type 0} → (xs : List X) (n : ℕ) (x : X) → slice_get xs n ≡ Some x → slice_set xs n x ≡ xs
set_same [] n x is = refl
set_same (y ∷ xs) zero x is = let same : y ≡ x = cc in ap (λ z. z ∷ xs) (sym same)
set_same (y ∷ xs) (suc n) x is = ap (λ rest. y ∷ rest) (set_same xs n x is)

set_nowhere : {X : Type 0} → (xs : List X) (n : ℕ) (x : X) → slice_get xs n ≡ None → slice_set xs n x ≡ xs
set_nowhere [] n x is = refl
set_nowhere (y ∷ xs) zero x is = let no : Some y ≡ None = is in cc
set_nowhere (y ∷ xs) (suc n) x is = ap (λ rest. y ∷ rest) (set_nowhere xs n x is)

-- what stands at a place that a step leads to, or nothing does
pub data Stood {X : Type 0} (there : Option X) (x : X) : Type 0 where
  here : there ≡ Some x → Stood there x
  nowhere : there ≡ None → Stood there x

set_stood : {X : Type 0} → (xs : List X) (n : ℕ) (x : X) → Stood (slice_get xs n) x → slice_set xs n x ≡ xs
set_stood xs n x (here is) = set_same xs n x is
set_stood xs n x (nowhere is) = set_nowhere xs n x is

module _ {H : Type 0} where
  array_by : (u : Union H) (items : List (Dynamic H)) → out-Union H u ≡ layer.Array items → u ≡ value.Array items
  array_by u items is = sym (roll-out-Union H u) ∙ ap (roll-Union H) is ∙ rolls-Array items

  map_by : (u : Union H) (entries : List (List ℕ) × List (Dynamic H)) → out-Union H u ≡ layer.Map entries → u ≡ value.Map entries
  map_by u entries is = sym (roll-out-Union H u) ∙ ap (roll-Union H) is ∙ rolls-Map entries

  -- ---- a value goes back

  back_in : (w : Dynamic H) (l : UnionLayer H) (at : Spot) (x : Dynamic H) → layer_of w ≡ l → Stood (value_in l at) x →
      with_value_in w.value l at x ≡ w.value
  back_in w (layer.Array items) (spot.Item n) x is stood =
      ap (λ xs. value.Array xs) (set_stood items n x stood) ∙ sym (array_by w.value items is)
  back_in w (layer.Map entries) (spot.Value n) x is stood =
      ap (λ xs. value.Map {X1 = H} (entries.0, xs)) (set_stood entries.1 n x stood) ∙ sym (map_by w.value entries is)
  back_in w _ _ x is stood = refl

  -- what stood at a place goes back there
  pub goes_back : (w : Dynamic H) (at : Spot) (x : Dynamic H) → Stood (value_at w at) x → with_value w at x ≡ w
  goes_back w at x stood = ap (λ u. record w { value = u }) (back_in w (layer_of w) at x refl stood)

  -- ---- constants

  pub constant_mode : (w : Dynamic H) → IsConstant w → is_constant w.mode ≡ true
  constant_mode w c = ap is_constant (sym (ap (λ d. d.mode) c))

  item_constant : (xs : List (Dynamic H)) (n : ℕ) (u : Dynamic H) → map (with_mode ReadOnly) xs ≡ xs →
      slice_get xs n ≡ Some u → IsConstant u
  item_constant [] n u c is = let no : None ≡ Some u = is in absurd (cc no)
  item_constant (x ∷ xs) zero u c is =
      let one : with_mode ReadOnly x ≡ x = cc in
      let same : x ≡ u = cc in
      rw (← same) one
  item_constant (x ∷ xs) (suc n) u c is = let rest : map (with_mode ReadOnly) xs ≡ xs = cc in item_constant xs n u rest is

  items_of : (xs ys : List (Dynamic H)) → value.Array xs ≡ value.Array ys → xs ≡ ys
  items_of xs ys is =
      let same : ◌≡◌ {A = UnionLayer H} (layer.Array xs) (layer.Array ys) = sym (outs-Array xs) ∙ ap (out-Union H) is ∙ outs-Array ys in cc

  entries_of : (xs ys : List (List ℕ) × List (Dynamic H)) → value.Map {X1 = H} xs ≡ value.Map ys → xs ≡ ys
  entries_of xs ys is =
      let same : ◌≡◌ {A = UnionLayer H} (layer.Map xs) (layer.Map ys) = sym (outs-Map xs) ∙ ap (out-Union H) is ∙ outs-Map ys in cc

  constant_in : (w : Dynamic H) (l : UnionLayer H) (at : Spot) (u : Dynamic H) → layer_of w ≡ l → IsConstant w → value_in l at ≡ Some u →
      IsConstant u
  constant_in w (layer.Array items) (spot.Item n) u is c there =
      let e : w.value ≡ value.Array items = array_by w.value items is in
      let same : map (with_mode ReadOnly) items ≡ items = items_of _ _
      (sym (mode-Array ReadOnly items) ∙ ap (union_with_mode ReadOnly) (sym e) ∙ ap (λ d. d.value) c ∙ e) in
      item_constant items n u same there
  constant_in w (layer.Map entries) (spot.Value n) u is c there =
      let e : w.value ≡ value.Map entries = map_by w.value entries is in
      let same : (entries.0, map (with_mode ReadOnly) entries.1) ≡ entries = entries_of _ _
      (sym (mode-Map ReadOnly entries) ∙ ap (union_with_mode ReadOnly) (sym e) ∙ ap (λ d. d.value) c ∙ e) in
      item_constant entries.1 n u (ap (λ p. p.1) same) there
  constant_in w _ _ u is c there = let no : None ≡ Some u = there in absurd (cc no)

  -- what stands at a place of a constant is one
  pub constant_at : (w : Dynamic H) (at : Spot) (u : Dynamic H) → IsConstant w → value_at w at ≡ Some u → IsConstant u
  constant_at w at u c there = constant_in w (layer_of w) at u refl c there

  -- ---- parts

  leaf : (l : UnionLayer H) (at : Spot) → union_with_mode ReadOnly (part_in l at) ≡ part_in l at
  leaf (layer.Int n) (spot.Bit at) = refl
  leaf (layer.Int n) (spot.BitField from last) = refl
  leaf (layer.Str text) (spot.Char at) = refl
  leaf (layer.Str text) (spot.Slice from last) = refl
  leaf (layer.Blob bytes) (spot.Byte at) = refl
  leaf _ _ = refl

  -- a part of a constant is one
  pub constant_part : (w : Dynamic H) (at : Spot) → IsConstant w → IsConstant (part_of w at)
  constant_part w at c = ap (λ u. record { value = u; mode = ReadOnly }) (leaf (layer_of w) at)
      ∙ ap (λ m. record { value = part_in (layer_of w) at; mode = m }) (ap (λ d. d.mode) c)

  part_in_no_handle : (l : UnionLayer H) (at : Spot) → IsNoHandle (part_in l at)
  part_in_no_handle (layer.Int n) (spot.Bit at) = tt
  part_in_no_handle (layer.Int n) (spot.BitField from last) = tt
  part_in_no_handle (layer.Str text) (spot.Char at) = tt
  part_in_no_handle (layer.Str text) (spot.Slice from last) = tt
  part_in_no_handle (layer.Blob bytes) (spot.Byte at) = tt
  part_in_no_handle _ _ = tt

  -- and no handle
  pub part_no_handle : (w : Dynamic H) (at : Spot) → IsNoHandle (part_of w at).value
  part_no_handle w at = part_in_no_handle (layer_of w) at

  -- ---- read-only part by part

  -- an array, a map, or what a mode leaves as it is
  data Kind (u : Union H) : Type 0 where
    is_array : (items : List (Dynamic H)) → u ≡ value.Array items → Kind u
    is_map : (entries : List (List ℕ) × List (Dynamic H)) → u ≡ value.Map entries → Kind u
    is_plain : union_with_mode ReadOnly u ≡ u → Kind u

  kind_of : (u : Union H) → Kind u
  unfolding out-Union denote.Hole.Carrier.out
  kind_of (Array' shape row) = is_array _ (array_by (Array' shape row) _ refl)
  kind_of (Map' shape row) = is_map _ (map_by (Map' shape row) _ refl)
  kind_of _ = is_plain refl

  constant_items : (xs : List (Dynamic H)) → ((n : ℕ) (u : Dynamic H) → slice_get xs n ≡ Some u → IsConstant u) →
      map (with_mode ReadOnly) xs ≡ xs
  constant_items [] each = refl
  constant_items (x ∷ xs) each =
      let rest : map (with_mode ReadOnly) xs ≡ xs = constant_items xs (λ n u there. each (suc n) u there) in
      λ i. each zero x refl i ∷ rest i

  -- what an array has, and what a map has, stands in the value
  item_there : (v : Dynamic H) (items : List (Dynamic H)) → v.value ≡ value.Array items → (n : ℕ) →
      value_at v (spot.Item n) ≡ slice_get items n
  item_there v items is n =
      ap (λ u. value_in (out-Union H u) (spot.Item n)) is ∙ ap (λ l. value_in l (spot.Item n)) (outs-Array items)

  entry_there : (v : Dynamic H) (entries : List (List ℕ) × List (Dynamic H)) → v.value ≡ value.Map {X1 = H} entries → (n : ℕ) →
      value_at v (spot.Value n) ≡ slice_get entries.1 n
  entry_there v entries is n =
      ap (λ u. value_in (out-Union H u) (spot.Value n)) is ∙ ap (λ l. value_in l (spot.Value n)) (outs-Map entries)

  constant_union : (v : Dynamic H) → ((at : Spot) (u : Dynamic H) → value_at v at ≡ Some u → IsConstant u) → Kind v.value →
      union_with_mode ReadOnly v.value ≡ v.value
  constant_union v inside (is_array items is) =
      let same : map (with_mode ReadOnly) items ≡ items =
      constant_items items (λ n u there. inside (spot.Item n) u (item_there v items is n ∙ there)) in
      ap (union_with_mode ReadOnly) is ∙ mode-Array ReadOnly items ∙ ap (λ xs. value.Array xs) same ∙ sym is
  constant_union v inside (is_map entries is) =
      let same : map (with_mode ReadOnly) entries.1 ≡ entries.1 =
      constant_items entries.1 (λ n u there. inside (spot.Value n) u (entry_there v entries is n ∙ there)) in
      ap (union_with_mode ReadOnly) is ∙ mode-Map ReadOnly entries ∙ ap (λ xs. value.Map {X1 = H} (entries.0, xs)) same ∙ sym is
  constant_union v inside (is_plain same) = same

module _ {H : Type 0} (mode : AccessMode) where
  -- a mode is set once for all
  mutual
    twice_union : (u : Union H) → union_with_mode mode (union_with_mode mode u) ≡ union_with_mode mode u
    twice_union (Array' shape items) = ap (λ row. Array' shape row) (twice_array items)
    twice_union (Map' shape entries) = ap (λ row. Map' shape row) (twice_map entries)
    twice_union _ = refl

    twice_array : {n : _} (row : Array_row H n) → array_with_mode mode (array_with_mode mode row) ≡ array_with_mode mode row
    twice_array array_end = refl
    twice_array (array_more shape items rest) = λ i. array_more shape (twice_row items i) (twice_array rest i)

    twice_map : {n : _} (row : Map_row H n) → map_with_mode mode (map_with_mode mode row) ≡ map_with_mode mode row
    twice_map map_end = refl
    twice_map (map_more shape values rest) = λ i. map_more shape (twice_row values i) (twice_map rest i)

    twice_row : {n : _} (row : Row H n) → row_with_mode mode (row_with_mode mode row) ≡ row_with_mode mode row
    twice_row end = refl
    twice_row (more value own rest) = λ i. more (twice_union value i) mode (twice_row rest i)

pub const_is_constant : (H : Type 0) → ConstIsConstant H
const_is_constant H name v = ap (λ u. record { value = u; mode = ReadOnly }) (twice_union ReadOnly v.value)

pub constant_is_read_only : (H : Type 0) → ConstantIsReadOnly H
constant_is_read_only H v c = record { mode = sym (ap (λ d. d.mode) c); inside = λ at u there. constant_at v at u c there }

pub read_only_is_constant : (H : Type 0) → ReadOnlyIsConstant H
read_only_is_constant H v h =
    let same : union_with_mode ReadOnly v.value ≡ v.value = constant_union v h.inside (kind_of v.value) in
    ap (λ u. record { value = u; mode = ReadOnly }) same ∙ ap (λ m. record { value = v.value; mode = m }) (sym h.mode)
