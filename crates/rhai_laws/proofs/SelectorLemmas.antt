-- What an index means in an array or a map is where it leads, and what is written there is read there alone.
use Rattle.std.proofs.Common.{◌≡◌, inl, inr, ℕ, true, false, List, [], ◌∷◌, Option, Some, None, Result, Ok}
use Rattle.std.proofs.Common.{refl, sym, ap, subst, ◌∙◌, length, ok_or, rules}
use Rattle.std.specs.List.{slice_get, slice_set}
use Rattle.std.specs.Option.{option_and_then, option_map}
use Rattle.std.specs.Prelude.{ℤ}
use Rattle.rhai_tree.specs.Lookup.{paired, place_of, rank, value_of, with_entry}
use Rattle.rhai_values.specs.declared.base.value.Dynamic.{Dynamic}
use Rattle.rhai_values.specs.declared.base.value.Union.{Union, out-Union}
use Rattle.rhai_values.specs.declared.base.value.Union.TheVariants as value
use Rattle.rhai_values.specs.declared.base.value.Union.TheVariants.{outs-Array, outs-Cell, outs-Map, outs-Str, outs-Unit}
use Rattle.rhai_values.specs.declared.base.value.FnPtrKind.TheOpen as layer
use Rattle.rhai_values.specs.Cells.{IsNoHandle}
use Rattle.rhai_values.specs.Copy.{plain}
use Rattle.rhai_values.specs.Layers.{UnionLayer, layer_of}
use Rattle.rhai_spots.specs.declared.spot.Access.{Access}
use Rattle.rhai_spots.specs.declared.spot.Refusal.{Refusal}
use Rattle.rhai_spots.specs.declared.spot.Refusal.TheVariants as refusal
use Rattle.rhai_spots.specs.declared.spot.Spot.{Spot}
use Rattle.rhai_spots.specs.declared.spot.Spot.TheVariants as spot
use Rattle.rhai_spots.specs.Found.{found, found_by, spot_or_error, through_layer, with_key, without_key}
use Rattle.rhai_spots.specs.Indexing.{bounds, index_in, key_spot, located}
use Rattle.rhai_spots.specs.Parts.{value_at, value_in, with_value, with_value_in}
use Rattle.rhai_machine.specs.language.Located.{is_map, is_place_spot, is_unit}
use Rattle.rhai_machine.specs.language.Values.{Cells, is_handle, unit_value}
use Rattle.rhai_laws.specs.Assigned.{meant, IsUnshared}
use Rattle.rhai_laws.specs.Selectors.{Selector, ToItem, ToKey, Part, read, selected, selected_in}
use Rattle.rhai_laws.proofs.KeyLemmas.{absent, added_there, added_written, is_within, key_written, other_key_stays, others_stay}
use Rattle.rhai_laws.proofs.KeyLemmas.{paired_even, paired_reads, place_paired, set_elsewhere, set_there}

module _ {H : Type 0} where
  -- ---- what an index means something in

  unit_is : out-Union H value.Unit ≡ layer.Unit
  unit_is = search (rules, outs-Unit)

  -- it is no handle, and not `()`
  pub means_no_handle : (u : Union H) (ix : UnionLayer H) (s : Selector) → meant (out-Union H u) ix ≡ Some s → is_handle u ≡ false
  means_no_handle (value.Cell id) ix s is =
      let no : None ≡ Some s = ap (λ kind. meant kind ix) (sym (outs-Cell id)) ∙ is in cc no
  means_no_handle _ ix s is = refl

  pub means_no_unit : (u : Union H) (ix : UnionLayer H) (s : Selector) → meant (out-Union H u) ix ≡ Some s → is_unit u ≡ false
  means_no_unit value.Unit ix s is =
      let no : None ≡ Some s = ap (λ kind. meant kind ix) (sym unit_is) ∙ is in cc no
  means_no_unit _ ix s is = refl

  -- a text means something in a map alone
  text_in_map : (kind : UnionLayer H) (key : List ℕ) (s : Selector) → meant kind (layer.Str key) ≡ Some s → is_map kind ≡ true
  text_in_map (layer.Map entries) key s is = refl
  text_in_map (layer.Array items) key s is = cc
  text_in_map kind key s is = cc

  pub property_in_map : (kind : UnionLayer H) (name : List ℕ) (s : Selector) → meant kind (layer_of (plain (value.Str name))) ≡ Some s →
      is_map kind ≡ true
  property_in_map kind name s is = text_in_map kind name s (ap (λ ix. meant kind ix) (sym (outs-Str name)) ∙ is)

  -- nothing is meant by a handle
  handle_means : (kind : UnionLayer H) (ix : UnionLayer H) (id : _) → ix ≡ layer.Cell id → meant kind ix ≡ None
  handle_means (layer.Array items) ix id is = ap (λ ix. meant (layer.Array items) ix) is
  handle_means (layer.Map entries) ix id is = ap (λ ix. meant (layer.Map entries) ix) is
  handle_means kind ix id is = refl

  seen_itself : (cells : Cells H) (d : Dynamic H) (kind ix : UnionLayer H) (s : Selector) → meant kind ix ≡ Some s →
      through_layer cells d ix ≡ Some d
  seen_itself cells d kind (layer.Cell id) s is =
      let no : None ≡ Some s = sym (handle_means kind (layer.Cell id) id refl) ∙ is in cc no
  seen_itself cells d kind ix s is = refl

  -- ---- the spot where it leads

  -- A step leads to a spot of a value, where this stands: what is written there is read there, and by no other step. The value is the one
  -- that was there before, or that with a missing key inserted.
  pub record Stands (before source : Dynamic H) (s : Selector) (at : Spot) (there : Dynamic H) : Type 0 where
    pub place : is_place_spot at ≡ true
    pub holds : value_at source at ≡ Some there
    pub written : (w : Dynamic H) → selected (with_value source at w) s ≡ Some w
    pub others : (w : Dynamic H) (t : Selector) → (s ≡ t → ⊥) → selected (with_value source at w) t ≡ selected before t

  array_with : (v w : Dynamic H) (items : List (Dynamic H)) (i : ℕ) → layer_of v ≡ layer.Array items →
      layer_of (with_value v (spot.Item i) w) ≡ layer.Array (slice_set items i w)
  array_with v w items i is =
      ap (λ kind. out-Union H (with_value_in v.value kind (spot.Item i) w)) is ∙ outs-Array (slice_set items i w)

  map_with : (v w : Dynamic H) (entries : List (List ℕ) × List (Dynamic H)) (i : ℕ) → layer_of v ≡ layer.Map entries →
      layer_of (with_value v (spot.Value i) w) ≡ layer.Map (entries.0, slice_set entries.1 i w)
  map_with v w entries i is =
      ap (λ kind. out-Union H (with_value_in v.value kind (spot.Value i) w)) is ∙ outs-Map (entries.0, slice_set entries.1 i w)

  other_items : (items : List (Dynamic H)) (i : ℕ) (w : Dynamic H) (t : Selector) → (ToItem i ≡ t → ⊥) →
      selected_in (layer.Array (slice_set items i w)) t ≡ selected_in (layer.Array items) t
  other_items items i w (ToItem j) apart = set_elsewhere items i j w (λ e. apart (ap ToItem e))
  other_items items i w (ToKey name) apart = refl

  item_stands : (v u : Dynamic H) (items : List (Dynamic H)) (i : ℕ) → layer_of v ≡ layer.Array items → slice_get items i ≡ Some u →
      Stands v v (ToItem i) (spot.Item i) u
  item_stands v u items i is there = record {
    place = refl;
    holds = ap (λ kind. value_in kind (spot.Item i)) is ∙ there;
    written = λ w. ap (λ kind. selected_in kind (ToItem i)) (array_with v w items i is) ∙ set_there items i u w there;
    others = λ w t apart. ap (λ kind. selected_in kind t) (array_with v w items i is) ∙ other_items items i w t apart
        ∙ sym (ap (λ kind. selected_in kind t) is);
  }

  other_values : (entries after : List (List ℕ) × List (Dynamic H)) (key : List ℕ) (t : Selector) →
      ((other : List ℕ) → (key ≡ other → ⊥) → value_of other after ≡ value_of other entries) → (ToKey key ≡ t → ⊥) →
      selected_in (layer.Map after) t ≡ selected_in (layer.Map entries) t
  other_values entries after key (ToItem j) stay apart = refl
  other_values entries after key (ToKey other) stay apart = stay other (λ e. apart (ap ToKey e))

  value_stands : (v u : Dynamic H) (entries : List (List ℕ) × List (Dynamic H)) (key : List ℕ) (i : ℕ) → layer_of v ≡ layer.Map entries →
      place_of key entries.0 ≡ Some i → slice_get entries.1 i ≡ Some u → Stands v v (ToKey key) (spot.Value i) u
  value_stands v u entries key i is place there = record {
    place = refl;
    holds = ap (λ kind. value_in kind (spot.Value i)) is ∙ there;
    written = λ w. ap (λ kind. selected_in kind (ToKey key)) (map_with v w entries i is)
        ∙ key_written key entries.0 entries.1 i u w place there;
    others = λ w t apart. ap (λ kind. selected_in kind t) (map_with v w entries i is)
        ∙ other_values entries (entries.0, slice_set entries.1 i w) key t
        (λ other. other_key_stays key other entries.0 entries.1 i w place) apart
        ∙ sym (ap (λ kind. selected_in kind t) is);
  }

  -- a map with `()` under a key that it did not have
  abbrev with_new_key : Dynamic H → List (List ℕ) × List (Dynamic H) → (key : List ℕ) → Dynamic H
  with_new_key v entries key = record v { value = value.Map (with_entry key unit_value entries) }

  new_value_stands : (v : Dynamic H) (entries : List (List ℕ) × List (Dynamic H)) (key : List ℕ) → layer_of v ≡ layer.Map entries →
      place_of key (paired entries).0 ≡ None →
      Stands v (with_new_key v (paired entries) key) (ToKey key) (spot.Value (rank key (paired entries).0)) unit_value
  new_value_stands v entries key is none =
      let pairs : List (List ℕ) × List (Dynamic H) = paired entries in
      let same : length pairs.0 ≡ length pairs.1 = paired_even entries.0 entries.1 in
      let source : Dynamic H = with_new_key v pairs key in
      let added : List (List ℕ) × List (Dynamic H) = with_entry key unit_value pairs in
      let i : ℕ = rank key pairs.0 in
      let now : layer_of source ≡ layer.Map added = outs-Map added in
      record {
        place = refl;
        holds = ap (λ kind. value_in kind (spot.Value i)) now ∙ added_there key pairs unit_value unit_value same none;
        written = λ w. ap (λ kind. selected_in kind (ToKey key)) (map_with source w added i now)
            ∙ added_written key pairs unit_value w same none;
        others = λ w t apart. ap (λ kind. selected_in kind t) (map_with source w added i now)
            ∙ other_values entries (added.0, slice_set added.1 i w) key t
            (λ other differ. others_stay key pairs unit_value w same none other differ ∙ paired_reads other entries.0 entries.1) apart
            ∙ sym (ap (λ kind. selected_in kind t) is);
      }

  -- ---- what is found there

  module _ (how : Access) (host : H → List ℕ) (cells : Cells H) where
    settles : (v index : Dynamic H) (at : Spot) → is_place_spot at ≡ true → spot_or_error how host cells v index (Ok at) ≡ Ok (v, at)
    settles v index (spot.Item i) is = refl
    settles v index (spot.Value i) is = refl
    settles v index at is = cc

    found_so : (v index : Dynamic H) (s : Selector) (r : Result Spot Refusal) → meant (layer_of v) (layer_of index) ≡ Some s →
        located (layer_of v) (layer_of index) ≡ r → found how host cells v index ≡ spot_or_error how host cells v index r
    found_so v index s r means leads =
        ap (λ o. found_by how host cells v o) (seen_itself cells index (layer_of v) (layer_of index) s means)
        ∙ ap (λ r. spot_or_error how host cells v index r) leads

  -- a step that leads somewhere leads to this spot
  pub record Leads (v u : Dynamic H) (index : UnionLayer H) (s : Selector) : Type 0 where
    pub at : Spot
    pub leads : located (layer_of v) index ≡ Ok at
    pub stands : Stands v v s at u

  item_leads : (v u : Dynamic H) (items : List (Dynamic H)) (i : ℤ) (s : Selector) (o : Option ℕ) → layer_of v ≡ layer.Array items →
      index_in (length items) i ≡ o → option_map (λ at. ToItem at) o ≡ Some s → selected_in (layer.Array items) s ≡ Some u →
      Leads v u (layer.Int i) s
  item_leads v u items i s None is at means there = cc
  item_leads v u items i s (Some n) is at means there =
      let same : ToItem n ≡ s = cc in
      let here : slice_get items n ≡ Some u = ap (λ s. selected_in (layer.Array items) s) same ∙ there in
      record {
        at = spot.Item n;
        leads = ap (λ kind. located kind (layer.Int i)) is
            ∙ ap (λ o. ok_or (option_map (λ at. spot.Item at) o) (refusal.ArrayBounds (bounds (length items) i))) at;
        stands = subst (λ s. Stands v v s (spot.Item n) u) same (item_stands v u items n is here);
      }

  value_leads : (v u : Dynamic H) (entries : List (List ℕ) × List (Dynamic H)) (key : List ℕ) (o : Option ℕ) →
      layer_of v ≡ layer.Map entries → place_of key entries.0 ≡ o → option_and_then (λ at. slice_get entries.1 at) o ≡ Some u →
      Leads v u (layer.Str key) (ToKey key)
  value_leads v u entries key None is place there = cc
  value_leads v u entries key (Some n) is place there = record {
    at = spot.Value n;
    leads = ap (λ kind. located kind (layer.Str key)) is
        ∙ ap (λ o. Ok (key_spot o)) (place_paired key entries.0 (length entries.1) n place (is_within entries.1 n u there));
    stands = value_stands v u entries key n is place there;
  }

  leads_in : (v u : Dynamic H) (kind ix : UnionLayer H) (s : Selector) → layer_of v ≡ kind → meant kind ix ≡ Some s →
      selected_in kind s ≡ Some u → Leads v u ix s
  leads_in v u (layer.Array items) (layer.Int i) s is means there =
      item_leads v u items i s (index_in (length items) i) is refl means there
  leads_in v u (layer.Map entries) (layer.Str key) s is means there =
      let same : ToKey key ≡ s = cc in
      subst (λ s. Leads v u (layer.Str key) s) same (value_leads v u entries key (place_of key entries.0) is refl
      (ap (λ s. selected_in (layer.Map entries) s) same ∙ there))
  leads_in v u kind ix s is means there = cc

  pub leads : (v u : Dynamic H) (ix : UnionLayer H) (s : Selector) → meant (layer_of v) ix ≡ Some s → selected v s ≡ Some u → Leads v u ix s
  leads v u ix s means there = leads_in v u (layer_of v) ix s refl means there

  -- a step that may be written at leads to this spot, once a missing key is inserted
  pub record Opens (how : Access) (host : H → List ℕ) (cells : Cells H) (v index : Dynamic H) (s : Selector) : Type 0 where
    pub source : Dynamic H
    pub at : Spot
    pub old : Dynamic H
    pub finds : found how host cells v index ≡ Ok (source, at)
    pub stands : Stands v source s at old
    pub unshared : IsNoHandle old.value

  module _ (how : Access) (host : H → List ℕ) (cells : Cells H) (v index : Dynamic H) (s : Selector)
      (means : meant (layer_of v) (layer_of index) ≡ Some s) where
    pub finds : (u : Dynamic H) (there : Leads v u (layer_of index) s) → found how host cells v index ≡ Ok (v, there.at)
    finds u there = found_so how host cells v index s (Ok there.at) means there.leads
        ∙ settles how host cells v index there.at there.stands.place

    adds_key : how.add_if_not_found ≡ true → without_key how v index ≡ Ok (with_key v (layer_of v) (layer_of index))
    adds_key adds = rw adds refl

    opens_new : (adds : how.add_if_not_found ≡ true) (kind ix : UnionLayer H) → layer_of v ≡ kind → layer_of index ≡ ix →
        meant kind ix ≡ Some s → selected_in kind s ≡ None → IsUnshared kind None → Opens how host cells v index s
    opens_new adds (layer.Map entries) (layer.Str key) is keyed meant_there none plain =
        let named : ToKey key ≡ s = cc in
        let no_value : value_of key (paired entries) ≡ None = paired_reads key entries.0 entries.1
        ∙ ap (λ s. selected_in (layer.Map entries) s) named ∙ none in
        let no_place : place_of key (paired entries).0 ≡ None = absent key (paired entries).0 (paired entries).1
        (paired_even entries.0 entries.1) no_value in
        record {
          source = with_new_key v (paired entries) key;
          at = spot.Value (rank key (paired entries).0);
          old = unit_value;
          finds = found_so how host cells v index s (Ok spot.Missing) means
              (ap (λ kind. located kind (layer_of index)) is ∙ ap (λ ix. located (layer.Map entries) ix) keyed
              ∙ ap (λ o. Ok (key_spot o)) no_place)
              ∙ adds_key adds
              ∙ ap (λ kind. Ok (with_key v kind (layer_of index))) is
              ∙ ap (λ ix. Ok (with_key v (layer.Map entries) ix)) keyed;
          stands = subst (λ s. Stands v (with_new_key v (paired entries) key) s (spot.Value (rank key (paired entries).0)) unit_value) named
              (new_value_stands v entries key is no_place);
          unshared = tt;
        }
    opens_new adds (layer.Array items) (layer.Int i) is keyed meant_there none plain = absurd plain
    opens_new adds kind ix is keyed meant_there none plain = cc

    opens_by : how.add_if_not_found ≡ true → (o : Option (Dynamic H)) → selected v s ≡ o → IsUnshared (layer_of v) o →
        Opens how host cells v index s
    opens_by adds None none plain = opens_new adds (layer_of v) (layer_of index) refl refl means none plain
    opens_by adds (Some u) is plain =
        let there : Leads v u (layer_of index) s = leads v u (layer_of index) s means is in
        record { source = v; at = there.at; old = u; finds = finds u there; stands = there.stands; unshared = plain }

    pub opens : how.add_if_not_found ≡ true → IsUnshared (layer_of v) (selected v s) → Opens how host cells v index s
    opens adds unshared = opens_by adds (selected v s) refl unshared

  -- ---- whole paths

  -- another value was written at the end of a path
  pub record Writes (path : List Selector) (w old new : Dynamic H) : Type 0 where
    pub written : read (Some new) path ≡ Some w
    pub stays : (other : List Selector) → Part path other → read (Some new) other ≡ read (Some old) other

  last_stays : (v source old w : Dynamic H) (s : Selector) (at : Spot) → Stands v source s at old → (other : List Selector) →
      Part (s ∷ []) other → read (Some (with_value source at w)) other ≡ read (Some v) other
  last_stays v source old w s at stands (t ∷ others) (inl apart) = ap (λ o. read o others) (stands.others w t apart)
  last_stays v source old w s at stands (t ∷ others) (inr (same, parts)) = absurd parts
  last_stays v source old w s at stands [] parts = absurd parts

  pub last_writes : (v source old w : Dynamic H) (s : Selector) (at : Spot) → Stands v source s at old →
      Writes (s ∷ []) w v (with_value source at w)
  last_writes v source old w s at stands = record { written = stands.written w; stays = last_stays v source old w s at stands }

  module _ (v u below w : Dynamic H) (s : Selector) (path : List Selector) (at : Spot) (stands : Stands v v s at u)
      (there : selected v s ≡ Some u) (writes : Writes path w u below) where
    further_stays : (other : List Selector) → Part (s ∷ path) other → read (Some (with_value v at below)) other ≡ read (Some v) other
    further_stays (t ∷ others) (inl apart) = ap (λ o. read o others) (stands.others below t apart)
    further_stays (t ∷ others) (inr (same, parts)) =
        ap (λ t. read (selected (with_value v at below) t) others) (sym same)
        ∙ ap (λ o. read o others) (stands.written below)
        ∙ writes.stays others parts
        ∙ ap (λ o. read o others) (sym there)
        ∙ ap (λ t. read (selected v t) others) same
    further_stays [] parts = absurd parts

    pub further_writes : Writes (s ∷ path) w v (with_value v at below)
    further_writes = record { written = ap (λ o. read o path) (stands.written below) ∙ writes.written; stays = further_stays }
