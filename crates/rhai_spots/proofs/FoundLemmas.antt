-- Keys that a map has, and those that it does not have.
use Rattle.std.proofs.Common.{◌≡◌, ℕ, ℤ, ◌+◌, ◌<◌, ◌≤◌, Bool, true, false, refl, List, Option, Some, None, Result, Ok, Err, sym, ap, ◌∙◌}
use Rattle.std.proofs.Common.{length, arith, ok_or}
use Rattle.std.specs.Option.{option_map}
use Rattle.std.proofs.lemmas.List.Edits.{length-insert}
use Rattle.std.proofs.lemmas.List.Quantifiers.{position-Some}
use Rattle.std.proofs.lemmas.List.Sums.{prefix_len-le-length}
use Rattle.rhai_tree.specs.Lookup.{paired, place_of, rank, put_at, with_entry}
use Rattle.rhai_values.specs.declared.base.value.FnPtrKind.TheOpen as layer
use Rattle.rhai_values.specs.Layers.{UnionLayer}
use Rattle.rhai_spots.specs.declared.spot.Refusal.{Refusal}
use Rattle.rhai_spots.specs.declared.spot.Spot.{Spot}
use Rattle.rhai_spots.specs.declared.spot.Spot.TheVariants as spot
use Rattle.rhai_spots.specs.Found.{IsKeyless, IsText}
use Rattle.rhai_spots.specs.Indexing.{located, in_integer, in_text, in_array, in_blob, key_spot, bit_field, slice_spot}

-- a key that is there stands among the values
pub found_place : (key : List ℕ) (keys : List (List ℕ)) (at : ℕ) → place_of key keys ≡ Some at → at < length keys
found_place key keys at e = (position-Some _ keys at key e).0

-- a key that was not there stands among the values once it is inserted
pub new_place : {T : Type 0} → (key : List ℕ) (x : T) (t new : List (List ℕ) × List T) →
    length t.0 ≡ length t.1 → place_of key t.0 ≡ None → new ≡ with_entry key x t → rank key t.0 < length new.1
new_place key x t new same absent is =
    let e : length new.1 ≡ length t.1 + 1 =
    ap (λ n. length n.1) is ∙ ap (λ o. length (put_at o key x t).1) absent
    ∙ length-insert t.1 (rank key t.0) x (let le : rank key t.0 ≤ length t.0 = prefix_len-le-length _ t.0 in omega arith) in
    let le : rank key t.0 ≤ length t.0 = prefix_len-le-length _ t.0 in
    omega arith

-- ---- a missing key is one of a map

abbrev is_missing : Result Spot Refusal → Bool
is_missing (Ok spot.Missing) = true
is_missing (Ok at) = false
is_missing (Err r) = false

no_key : (found : Result Spot Refusal) → is_missing found ≡ false → found ≡ Ok spot.Missing → ⊥
no_key found other e = let both : true ≡ false = sym (ap is_missing e) ∙ other in cc

bit_found : (o : Option ℕ) (r : Refusal) → is_missing (ok_or (option_map (λ at. spot.Bit at) o) r) ≡ false
bit_found None r = refl
bit_found (Some at) r = refl

char_found : (o : Option ℕ) (r : Refusal) → is_missing (ok_or (option_map (λ at. spot.Char at) o) r) ≡ false
char_found None r = refl
char_found (Some at) r = refl

item_found : (o : Option ℕ) (r : Refusal) → is_missing (ok_or (option_map (λ at. spot.Item at) o) r) ≡ false
item_found None r = refl
item_found (Some at) r = refl

byte_found : (o : Option ℕ) (r : Refusal) → is_missing (ok_or (option_map (λ at. spot.Byte at) o) r) ≡ false
byte_found None r = refl
byte_found (Some at) r = refl

field_found : (start last : ℤ) (from end : Option ℕ) → is_missing (bit_field start last from end) ≡ false
field_found start last None end = refl
field_found start last (Some from) None = refl
field_found start last (Some from) (Some end) = refl

slice_found : (count : ℕ) (start : ℤ) (from : Option ℕ) (end : ℕ) → is_missing (slice_spot count start from end) ≡ false
slice_found count start None end = refl
slice_found count start (Some from) end = refl

key_missing : (o : Option ℕ) (found : Result Spot Refusal) → found ≡ Ok (key_spot o) → found ≡ Ok spot.Missing → o ≡ None
key_missing None found is e = refl
key_missing (Some at) found is e = absurd (no_key found (ap is_missing is) e)

module _ {H : Type 0} where
  in_integer_found : (index : UnionLayer H) → is_missing (in_integer index) ≡ false
  in_integer_found (layer.Int i) = bit_found _ _
  in_integer_found (layer.ExclusiveRange start end) = field_found _ _ _ _
  in_integer_found (layer.InclusiveRange start last) = field_found _ _ _ _
  in_integer_found _ = refl

  in_text_found : (count : ℕ) (index : UnionLayer H) → is_missing (in_text count index) ≡ false
  in_text_found count (layer.Int i) = char_found _ _
  in_text_found count (layer.ExclusiveRange start end) = slice_found _ _ _ _
  in_text_found count (layer.InclusiveRange start last) = slice_found _ _ _ _
  in_text_found count _ = refl

  in_array_found : (count : ℕ) (index : UnionLayer H) → is_missing (in_array count index) ≡ false
  in_array_found count (layer.Int i) = item_found _ _
  in_array_found count _ = refl

  in_blob_found : (count : ℕ) (index : UnionLayer H) → is_missing (in_blob count index) ≡ false
  in_blob_found count (layer.Int i) = byte_found _ _
  in_blob_found count _ = refl

  pub keyless : (source index : UnionLayer H) → located source index ≡ Ok spot.Missing → IsKeyless source index
  keyless (layer.Int n) index e = absurd (no_key _ (in_integer_found index) e)
  keyless (layer.Str text) index e = absurd (no_key _ (in_text_found _ index) e)
  keyless (layer.Array items) index e = absurd (no_key _ (in_array_found _ index) e)
  keyless (layer.Blob bytes) index e = absurd (no_key _ (in_blob_found _ index) e)
  keyless (layer.Map entries) (layer.Str key) e = key_missing (place_of key (paired entries).0) _ refl e
  keyless (layer.Map entries) index e = absurd (no_key _ refl e)
  keyless source index e = absurd (no_key _ refl e)

  pub key_is_text : (source index : UnionLayer H) → IsKeyless source index → IsText index
  key_is_text (layer.Map entries) (layer.Str key) h = tt
  key_is_text (layer.Map entries) index h = absurd h
  key_is_text source index h = absurd h
