-- Places that are read after another value was written.
use Rattle.std.proofs.Common.{◌≡◌, ℕ, zero, suc, ◌<◌, List, [], ◌∷◌, Some, refl, ap, ◌∙◌, length, arith, rules}
use Rattle.std.specs.List.{slice_get, slice_set}
use Rattle.rhai_values.specs.declared.base.value.Dynamic.{Dynamic}
use Rattle.rhai_values.specs.declared.base.value.Union.{out-Union}
use Rattle.rhai_values.specs.declared.base.value.Union.TheVariants as value
use Rattle.rhai_values.specs.declared.base.value.Union.TheVariants.{outs-Array, outs-Map}
use Rattle.rhai_values.specs.declared.base.value.FnPtrKind.TheOpen as layer
use Rattle.rhai_values.specs.Layers.{UnionLayer, layer_of}
use Rattle.rhai_spots.specs.declared.spot.Spot.{Spot}
use Rattle.rhai_spots.specs.declared.spot.Spot.TheVariants as spot
use Rattle.rhai_spots.specs.Parts.{IsPlace, value_at, value_in, with_value, with_value_in}

set_read : {X : Type 0} → (xs : List X) (i : ℕ) (x : X) → i < length xs → slice_get (slice_set xs i x) i ≡ Some x
set_read [] i x lt = absurd (omega arith)
set_read (y ∷ xs) zero x lt = refl
set_read (y ∷ xs) (suc i) x lt = set_read xs i x (omega arith)

set_stays : {X : Type 0} → (xs : List X) (i j : ℕ) (x : X) → (i ≡ j → ⊥) → slice_get (slice_set xs i x) j ≡ slice_get xs j
set_stays [] i j x ne = refl
set_stays (y ∷ xs) zero zero x ne = absurd (ne refl)
set_stays (y ∷ xs) zero (suc j) x ne = refl
set_stays (y ∷ xs) (suc i) zero x ne = refl
set_stays (y ∷ xs) (suc i) (suc j) x ne = set_stays xs i j x (λ e. ne (ap suc e))

module _ {H : Type 0} where
  abbrev seen : Dynamic H → UnionLayer H → (at other : Spot) → Dynamic H → Type 0
  seen source kind at other v = value_in (out-Union H (with_value_in source.value kind at v)) other ≡ value_in kind other

  array_is : (items : List (Dynamic H)) → out-Union H (value.Array items) ≡ layer.Array items
  array_is items = search (rules, outs-Array)

  map_is : (keys : List (List ℕ)) (values : List (Dynamic H)) → out-Union H (value.Map (keys, values)) ≡ layer.Map (keys, values)
  map_is keys values = search (rules, outs-Map)

  read_in : (kind : UnionLayer H) (source v : Dynamic H) (at : Spot) → IsPlace kind at →
      value_in (out-Union H (with_value_in source.value kind at v)) at ≡ Some v
  read_in (layer.Array items) source v (spot.Item i) h = ap (λ k. value_in k (spot.Item i)) (array_is (slice_set items i v))
      ∙ set_read items i v h
  read_in (layer.Map entries) source v (spot.Value i) h = ap (λ k. value_in k (spot.Value i))
      (map_is entries.0 (slice_set entries.1 i v)) ∙ set_read entries.1 i v h
  read_in kind source v (spot.Item i) h = absurd h
  read_in kind source v (spot.Value i) h = absurd h
  read_in kind source v at h = absurd h

  -- what is written at a place is read there
  pub written : (source v : Dynamic H) (at : Spot) → IsPlace (layer_of source) at → value_at (with_value source at v) at ≡ Some v
  written source v at h = read_in (layer_of source) source v at h

  array_stays : (items : List (Dynamic H)) (i : ℕ) (v : Dynamic H) (other : Spot) → (spot.Item i ≡ other → ⊥) →
      value_in (layer.Array (slice_set items i v)) other ≡ value_in (layer.Array items) other
  array_stays items i v (spot.Item j) ne = set_stays items i j v (λ e. ne (ap (λ n. spot.Item n) e))
  array_stays items i v other ne = refl

  map_stays : (keys : List (List ℕ)) (values : List (Dynamic H)) (i : ℕ) (v : Dynamic H) (other : Spot) → (spot.Value i ≡ other → ⊥) →
      value_in (layer.Map (keys, slice_set values i v)) other ≡ value_in (layer.Map (keys, values)) other
  map_stays keys values i v (spot.Value j) ne = set_stays values i j v (λ e. ne (ap (λ n. spot.Value n) e))
  map_stays keys values i v other ne = refl

  stays_in : (kind : UnionLayer H) (source v : Dynamic H) (at other : Spot) → IsPlace kind at → (at ≡ other → ⊥) →
      seen source kind at other v
  stays_in (layer.Array items) source v (spot.Item i) other h ne =
      ap (λ k. value_in k other) (array_is (slice_set items i v)) ∙ array_stays items i v other ne
  stays_in (layer.Map entries) source v (spot.Value i) other h ne =
      ap (λ k. value_in k other) (map_is entries.0 (slice_set entries.1 i v)) ∙ map_stays entries.0 entries.1 i v other ne
  stays_in kind source v (spot.Item i) other h ne = absurd h
  stays_in kind source v (spot.Value i) other h ne = absurd h
  stays_in kind source v at other h ne = absurd h

  -- what stands at another place stays
  pub stays : (source v : Dynamic H) (at other : Spot) → IsPlace (layer_of source) at → (at ≡ other → ⊥) →
      value_at (with_value source at v) other ≡ value_at source other
  stays source v at other h ne = stays_in (layer_of source) source v at other h ne
