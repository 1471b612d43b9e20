-- Spots that an index leads to: what they are once a missing key is inserted, and what is written back there.
use Rattle.std.proofs.Common.{◌≡◌, ◌⊎◌, inl, inr, ℕ, zero, suc, ◌<◌, List, [], ◌∷◌, true, false, Option, Some, None, Result, Ok, Err}
use Rattle.std.proofs.Common.{refl, sym, ap, ◌∙◌, length, arith}
use Rattle.std.specs.List.{insert, slice_get, slice_set}
use Rattle.rhai_tree.specs.Lookup.{paired, place_of, put_at, rank, with_entry}
use Rattle.rhai_values.specs.declared.base.value.Dynamic.{Dynamic}
use Rattle.rhai_values.specs.declared.base.value.Union.{out-Union, roll-Union, roll-out-Union}
use Rattle.rhai_values.specs.declared.base.value.Union.TheVariants as value
use Rattle.rhai_values.specs.declared.base.value.Union.TheVariants.{outs-Map, rolls-Array, rolls-Map}
use Rattle.rhai_values.specs.declared.base.value.FnPtrKind.TheOpen as layer
use Rattle.rhai_values.specs.Layers.{UnionLayer, layer_of}
use Rattle.rhai_errors.specs.declared.error.EvalAltResult.{EvalAltResult}
use Rattle.rhai_spots.specs.declared.spot.Access.{Access}
use Rattle.rhai_spots.specs.declared.spot.Refusal.{Refusal}
use Rattle.rhai_spots.specs.declared.spot.Spot.{Spot}
use Rattle.rhai_spots.specs.declared.spot.Spot.TheVariants as spot
use Rattle.rhai_spots.specs.Found.{found, found_by, spot_or_error, through, with_key, IsKeyless}
use Rattle.rhai_spots.specs.Indexing.{located}
use Rattle.rhai_spots.specs.Parts.{IsPart, IsPlace, IsThere, value_at, value_in, with_value, with_value_in}
use Rattle.rhai_spots.proofs.FoundLemmas.{keyless}
use Rattle.rhai_machine.specs.language.Located.{is_place_spot}
use Rattle.rhai_machine.specs.language.Values.{unit_value}
use Rattle.rhai_chains.specs.Assigned.{IsKept}

-- ---- what is written over itself stays

set_same : {A : Type 0} (xs : List A) (i : ℕ) (x : A) → slice_get xs i ≡ Some x → slice_set xs i x ≡ xs
set_same [] i x is = cc
set_same (z ∷ xs) zero x is = let same : x ≡ z = cc in ap (λ y. y ∷ xs) same
set_same (z ∷ xs) (suc i) x is = ap (λ ys. z ∷ ys) (set_same xs i x is)

-- what is inserted is read there
inserted_there : {A : Type 0} (xs : List A) (i : ℕ) (x : A) → i < length (insert xs i x) → slice_get (insert xs i x) i ≡ Some x
inserted_there xs zero x lt = refl
inserted_there [] (suc i) x lt = absurd (omega arith)
inserted_there (z ∷ xs) (suc i) x lt = inserted_there xs i x (omega arith)

module _ {H : Type 0} where
  rolled_back : (u : UnionLayer H) (at : Spot) (v : Dynamic H) → value_in u at ≡ Some v →
      with_value_in (roll-Union H u) u at v ≡ roll-Union H u
  rolled_back (layer.Array items) (spot.Item i) v is = ap (λ xs. value.Array xs) (set_same items i v is) ∙ sym (rolls-Array items)
  rolled_back (layer.Map entries) (spot.Value i) v is =
      ap (λ xs. value.Map (entries.0, xs)) (set_same entries.1 i v is) ∙ sym (rolls-Map entries)
  rolled_back u at v is = cc

  -- a value with what stands at a place written there is as it was
  pub back_again : (source v : Dynamic H) (at : Spot) → value_at source at ≡ Some v → with_value source at v ≡ source
  back_again source v at is = ap (λ u. record source { value = u })
      (ap (λ u. with_value_in u (layer_of source) at v) (sym (roll-out-Union H source.value))
      ∙ rolled_back (layer_of source) at v is
      ∙ roll-out-Union H source.value)

  -- ---- a spot that was found, a missing key inserted

  -- it is there, and either nothing was done or a `()` stands there
  pub record Standing (source after : Dynamic H) (at : Spot) : Type 0 where
    pub kept : IsKept (layer_of after) at
    pub added : (after ≡ source) ⊎ (value_at after at ≡ Some unit_value)

  map_read : (entries : List (List ℕ) × List (Dynamic H)) (i : ℕ) (o : Option (Dynamic H)) → slice_get entries.1 i ≡ o →
      value_in (out-Union H (value.Map entries)) (spot.Value i) ≡ o
  map_read entries i o is = ap (λ u. value_in u (spot.Value i)) (outs-Map entries) ∙ is

  map_there : (entries : List (List ℕ) × List (Dynamic H)) (i : ℕ) → IsThere (out-Union H (value.Map entries)) (spot.Value i) →
      i < length entries.1
  map_there entries i there = rw outs-Map at there

  -- a key that a map did not have is inserted
  key_added : (key : List ℕ) (entries : List (List ℕ) × List (Dynamic H)) (source : Dynamic H) → place_of key entries.0 ≡ None →
      IsThere (out-Union H (value.Map (with_entry key unit_value entries))) (spot.Value (rank key entries.0)) →
      value_in (out-Union H (value.Map (with_entry key unit_value entries))) (spot.Value (rank key entries.0)) ≡ Some unit_value
  key_added key entries source none there =
      let added : with_entry key unit_value entries ≡ put_at None key unit_value entries = ap (λ o. put_at o key unit_value entries) none in
      map_read (with_entry key unit_value entries) (rank key entries.0) (Some unit_value)
      (rw added (inserted_there entries.1 (rank key entries.0) unit_value
      (rw added at (map_there (with_entry key unit_value entries) (rank key entries.0) there))))

  with_key_stands : (source after : Dynamic H) (at : Spot) (u v : UnionLayer H) → IsKeyless u v → with_key source u v ≡ (after, at) →
      IsThere (layer_of after) at → Standing source after at
  with_key_stands source after at (layer.Map entries) (layer.Str key) none is there =
      let same_value : record source { value = value.Map (with_entry key unit_value (paired entries)) } ≡ after = ap (λ p. p.0) is in
      let same_spot : spot.Value (rank key (paired entries).0) ≡ at = ap (λ p. p.1) is in
      rw (← same_value, ← same_spot) (record {
        kept = rw (← same_value, ← same_spot) at there;
        added = inr (key_added key (paired entries) source none (rw (← same_value, ← same_spot) at there));
      })
  with_key_stands source after at u v none is there = absurd none

  kept_if : (u : UnionLayer H) (at : Spot) → (at ≡ spot.Missing → ⊥) → IsThere u at → IsKept u at
  kept_if u spot.Missing other there = absurd (other refl)
  kept_if u (spot.Item i) other there = there
  kept_if u (spot.Value i) other there = there
  kept_if u (spot.Byte i) other there = there
  kept_if u (spot.Bit i) other there = there
  kept_if u (spot.BitField i j) other there = there
  kept_if u (spot.Char i) other there = there
  kept_if u (spot.Slice i j) other there = there

  -- a place is where a value stands, and any other spot that is there is a part
  pub is_a_place : (u : UnionLayer H) (at : Spot) → is_place_spot at ≡ true → IsKept u at → IsPlace u at
  is_a_place u (spot.Item i) is kept = kept
  is_a_place u (spot.Value i) is kept = kept
  is_a_place u at is kept = cc

  pub is_a_part : (u : UnionLayer H) (at : Spot) → is_place_spot at ≡ false → IsKept u at → IsPart u at
  is_a_part u (spot.Item i) is kept = cc
  is_a_part u (spot.Value i) is kept = cc
  is_a_part u spot.Missing is kept = absurd kept
  is_a_part u (spot.Byte i) is kept = kept
  is_a_part u (spot.Bit i) is kept = kept
  is_a_part u (spot.BitField i j) is kept = kept
  is_a_part u (spot.Char i) is kept = kept
  is_a_part u (spot.Slice i j) is kept = kept

  module _ (how : Access) (host : H → List ℕ) (cells : List (Option (Dynamic H))) (source after : Dynamic H) (at : Spot)
      (adds : how.add_if_not_found ≡ true) where
    abbrev Gives : Result (Dynamic H × Spot) (EvalAltResult H) → Type 0
    Gives r = r ≡ Ok (after, at)

    same_stands : (other : Spot) → (other ≡ spot.Missing → ⊥) → Gives (Ok (source, other)) → IsThere (layer_of after) at →
        Standing source after at
    same_stands other is_other is there =
        let same : (source, other) ≡ (after, at) = cc in
        let same_spot : other ≡ at = ap (λ (found : Dynamic H × Spot). found.1) same in
        let same_value : source ≡ after = ap (λ (found : Dynamic H × Spot). found.0) same in
        record { kept = kept_if (layer_of after) at (λ missing. is_other (same_spot ∙ missing)) there; added = inl (sym same_value) }

    settled_stands : (index : Dynamic H) (r : Result Spot Refusal) → located (layer_of source) (layer_of index) ≡ r →
        Gives (spot_or_error how host cells source index r) → IsThere (layer_of after) at → Standing source after at
    settled_stands index (Ok spot.Missing) leads is there =
        let given : Gives (Ok (with_key source (layer_of source) (layer_of index))) = rw adds at is in
        let same : with_key source (layer_of source) (layer_of index) ≡ (after, at) = cc in
        with_key_stands source after at (layer_of source) (layer_of index) (keyless (layer_of source) (layer_of index) leads) same there
    settled_stands index (Ok (spot.Item i)) leads is there = same_stands (spot.Item i) (λ m. cc) is there
    settled_stands index (Ok (spot.Value i)) leads is there = same_stands (spot.Value i) (λ m. cc) is there
    settled_stands index (Ok (spot.Byte i)) leads is there = same_stands (spot.Byte i) (λ m. cc) is there
    settled_stands index (Ok (spot.Bit i)) leads is there = same_stands (spot.Bit i) (λ m. cc) is there
    settled_stands index (Ok (spot.BitField i j)) leads is there = same_stands (spot.BitField i j) (λ m. cc) is there
    settled_stands index (Ok (spot.Char i)) leads is there = same_stands (spot.Char i) (λ m. cc) is there
    settled_stands index (Ok (spot.Slice i j)) leads is there = same_stands (spot.Slice i j) (λ m. cc) is there
    settled_stands index (Err refusal) leads is there = cc

    by_stands : (o : Option (Dynamic H)) → Gives (found_by how host cells source o) → IsThere (layer_of after) at →
        Standing source after at
    by_stands (Some index) is there = settled_stands index (located (layer_of source) (layer_of index)) refl is there
    by_stands None is there = cc

    -- a spot that was found is there, and either nothing was done or a `()` was inserted
    pub found_stands : (index : Dynamic H) → Gives (found how host cells source index) → IsThere (layer_of after) at →
        Standing source after at
    found_stands index is there = by_stands (through cells index) is there
