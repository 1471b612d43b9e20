-- The value that a map has for a key, once another value stands there, and once a key was inserted.
use Rattle.std.proofs.Common.{◌≡◌, ◌⊎◌, inl, inr, ℕ, zero, suc, ◌+◌, ◌<◌, ◌≤◌, Bool, true, false, List, [], ◌∷◌, Option, Some, None}
use Rattle.std.proofs.Common.{refl, sym, ap, ◌∙◌, length, take, arith, cond}
use Rattle.std.proofs.lemmas.Bool.{lt-ltb, le-ltb, cases_lt}
use Rattle.std.proofs.lemmas.List.Quantifiers.{position-Some}
use Rattle.std.proofs.lemmas.Slice.Eq.{bytes_eq-Decides}
use Rattle.std.specs.List.{insert, slice_get, slice_set, position_or_len}
use Rattle.std.specs.Prelude.{nat_lt, option_and_then, option_map, get_or}
use Rattle.std.specs.Str.{bytes_eq}
use Rattle.rhai_tree.proofs.LookupLemmas.{rank-le}
use Rattle.rhai_tree.specs.Lookup.{paired, place_of, put_at, rank, value_of, with_entry}

-- ---- lists

pub set_there : {X : Type 0} (xs : List X) (i : ℕ) (x y : X) → slice_get xs i ≡ Some x → slice_get (slice_set xs i y) i ≡ Some y
set_there [] i x y is = cc
set_there (z ∷ xs) zero x y is = refl
set_there (z ∷ xs) (suc i) x y is = set_there xs i x y is

pub set_elsewhere : {X : Type 0} (xs : List X) (i j : ℕ) (y : X) → (i ≡ j → ⊥) → slice_get (slice_set xs i y) j ≡ slice_get xs j
set_elsewhere [] i j y apart = refl
set_elsewhere (z ∷ xs) zero zero y apart = absurd (apart refl)
set_elsewhere (z ∷ xs) zero (suc j) y apart = refl
set_elsewhere (z ∷ xs) (suc i) zero y apart = refl
set_elsewhere (z ∷ xs) (suc i) (suc j) y apart = set_elsewhere xs i j y (λ e. apart (ap suc e))

-- what is written over an item that was inserted is inserted
set_inserted : {X : Type 0} (xs : List X) (i : ℕ) (x y : X) → i ≤ length xs → slice_set (insert xs i x) i y ≡ insert xs i y
set_inserted xs zero x y le = refl
set_inserted [] (suc i) x y le = absurd (omega arith)
set_inserted (z ∷ xs) (suc i) x y le = ap (λ ys. z ∷ ys) (set_inserted xs i x y (omega arith))

pub inserted_there : {X : Type 0} (xs : List X) (i : ℕ) (x : X) → i ≤ length xs → slice_get (insert xs i x) i ≡ Some x
inserted_there xs zero x le = refl
inserted_there [] (suc i) x le = absurd (omega arith)
inserted_there (z ∷ xs) (suc i) x le = inserted_there xs i x (omega arith)

item_there : {X : Type 0} (xs : List X) (i : ℕ) → i < length xs → slice_get xs i ≡ None → ⊥
item_there [] i lt none = omega arith
item_there (x ∷ xs) zero lt none = cc
item_there (x ∷ xs) (suc i) lt none = item_there xs i (omega arith) none

pub is_within : {X : Type 0} (xs : List X) (i : ℕ) (x : X) → slice_get xs i ≡ Some x → i < length xs
is_within [] i x is = cc
is_within (y ∷ xs) zero x is = omega arith
is_within (y ∷ xs) (suc i) x is = let lt : i < length xs = is_within xs i x is in omega arith

-- ---- keys one by one

module _ {T : Type 0} where
  shifted : (x : T) (xs : List T) (n m : ℕ) →
      option_and_then (λ at. slice_get (x ∷ xs) at) (cond (nat_lt (suc n) (suc m)) (Some (suc n)) None)
      ≡ option_and_then (λ at. slice_get xs at) (cond (nat_lt n m) (Some n) None)
  shifted x xs n m = elim (cases_lt n m) as (λ _. option_and_then (λ at. slice_get (x ∷ xs) at) (cond (nat_lt (suc n) (suc m))
      (Some (suc n)) None)
      ≡ option_and_then (λ at. slice_get xs at) (cond (nat_lt n m) (Some n) None)) [
        | inl lt ↦ rw (lt-ltb n m lt, lt-ltb (suc n) (suc m) (omega arith)) refl
        | inr le ↦ rw (le-ltb n m le, le-ltb (suc n) (suc m) (omega arith)) refl
      ]

  -- the value of the first key, or else that of the others
  value_first : (key k : List ℕ) (ks : List (List ℕ)) (x : T) (xs : List T) → bytes_eq k key ≡ true →
      value_of key (k ∷ ks, x ∷ xs) ≡ Some x
  value_first key k ks x xs is = rw (is, lt-ltb 0 (suc (length ks)) (omega arith)) refl

  value_next : (key k : List ℕ) (ks : List (List ℕ)) (x : T) (xs : List T) → bytes_eq k key ≡ false →
      value_of key (k ∷ ks, x ∷ xs) ≡ value_of key (ks, xs)
  value_next key k ks x xs is =
      let n : ℕ = position_or_len (λ (k : List ℕ). bytes_eq k key) ks in
      let one : 1 + n ≡ suc n = omega arith in
      rw (is, one) (shifted x xs n (length ks))

either : (b : Bool) → (b ≡ true) ⊎ (b ≡ false)
either true = inl refl
either false = inr refl

same_key : (key other : List ℕ) (keys : List (List ℕ)) (i : ℕ) → place_of key keys ≡ Some i → place_of other keys ≡ Some i → key ≡ other
same_key key other keys i is there =
    let here : bytes_eq (get_or keys i []) key ≡ true = (position-Some (λ k. bytes_eq k key) keys i [] is).1 in
    let also : bytes_eq (get_or keys i []) other ≡ true = (position-Some (λ k. bytes_eq k other) keys i [] there).1 in
    sym ((bytes_eq-Decides (get_or keys i []) key).0 here) ∙ (bytes_eq-Decides (get_or keys i []) other).0 also

differs : (key other : List ℕ) → (key ≡ other → ⊥) → bytes_eq key other ≡ false
differs key other apart = elim (either (bytes_eq key other)) as (λ _. bytes_eq key other ≡ false) [
  | inl is ↦ absurd (apart ((bytes_eq-Decides key other).0 is))
  | inr is ↦ is
]

module _ {T : Type 0} where
  -- ---- a value is written at a key that is there

  pub key_written : (key : List ℕ) (keys : List (List ℕ)) (xs : List T) (i : ℕ) (x w : T) → place_of key keys ≡ Some i →
      slice_get xs i ≡ Some x → value_of key (keys, slice_set xs i w) ≡ Some w
  key_written key keys xs i x w is there =
      ap (λ place. option_and_then (λ at. slice_get (slice_set xs i w) at) place) is ∙ set_there xs i x w there

  other_place : (key other : List ℕ) (keys : List (List ℕ)) (xs : List T) (i : ℕ) (w : T) → place_of key keys ≡ Some i →
      (key ≡ other → ⊥) → (place : Option ℕ) → place_of other keys ≡ place →
      option_and_then (λ at. slice_get (slice_set xs i w) at) place ≡ option_and_then (λ at. slice_get xs at) place
  other_place key other keys xs i w is apart None there = refl
  other_place key other keys xs i w is apart (Some j) there =
      set_elsewhere xs i j w (λ e. apart (same_key key other keys i is (there ∙ ap Some (sym e))))

  pub other_key_stays : (key other : List ℕ) (keys : List (List ℕ)) (xs : List T) (i : ℕ) (w : T) → place_of key keys ≡ Some i →
      (key ≡ other → ⊥) → value_of other (keys, slice_set xs i w) ≡ value_of other (keys, xs)
  other_key_stays key other keys xs i w is apart = other_place key other keys xs i w is apart (place_of other keys) refl

  -- ---- the entries of a map, each a key with a value

  pub paired_even : (keys : List (List ℕ)) (xs : List T) → length (paired (keys, xs)).0 ≡ length (paired (keys, xs)).1
  paired_even [] [] = refl
  paired_even [] (x ∷ xs) = refl
  paired_even (k ∷ keys) [] = refl
  paired_even (k ∷ keys) (x ∷ xs) = ap suc (paired_even keys xs)

  none_there : (place : Option ℕ) → option_and_then (λ at. slice_get {X = T} [] at) place ≡ None
  none_there None = refl
  none_there (Some at) = refl

  pub paired_reads : (key : List ℕ) (keys : List (List ℕ)) (xs : List T) → value_of key (paired (keys, xs)) ≡ value_of key (keys, xs)
  paired_reads key [] [] = refl
  paired_reads key [] (x ∷ xs) = refl
  paired_reads key (k ∷ keys) [] = sym (none_there (place_of key (k ∷ keys)))
  paired_reads key (k ∷ keys) (x ∷ xs) = elim (either (bytes_eq k key)) as
      (λ _. value_of key (paired (k ∷ keys, x ∷ xs)) ≡ value_of key (k ∷ keys, x ∷ xs)) [
        | inl is ↦ value_first key k (take (length xs) keys) x (take (length keys) xs) is ∙ sym (value_first key k keys x xs is)
        | inr is ↦ value_next key k (take (length xs) keys) x (take (length keys) xs) is ∙ paired_reads key keys xs
            ∙ sym (value_next key k keys x xs is)
      ]

  -- ---- a key is inserted

  absent_by : (key : List ℕ) (keys : List (List ℕ)) (xs : List T) → length keys ≡ length xs → value_of key (keys, xs) ≡ None →
      (place : Option ℕ) → place_of key keys ≡ place → place ≡ None
  absent_by key keys xs same none None is = refl
  absent_by key keys xs same none (Some i) is =
      let lt : i < length keys = (position-Some (λ k. bytes_eq k key) keys i [] is).0 in
      absurd (item_there xs i (omega arith) (ap (λ place. option_and_then (λ at. slice_get xs at) place) (sym is) ∙ none))

  -- a key without a value is not there, among as many keys as values
  pub absent : (key : List ℕ) (keys : List (List ℕ)) (xs : List T) → length keys ≡ length xs → value_of key (keys, xs) ≡ None →
      place_of key keys ≡ None
  absent key keys xs same none = absent_by key keys xs same none (place_of key keys) refl

  inserted : (key : List ℕ) (r : ℕ) (ks : List (List ℕ)) (xs : List T) (w : T) → length ks ≡ length xs → r ≤ length ks →
      value_of key (ks, xs) ≡ None → value_of key (insert ks r key, insert xs r w) ≡ Some w
  inserted key zero ks xs w same le none = value_first key key ks w xs ((bytes_eq-Decides key key).1 refl)
  inserted key (suc r) [] xs w same le none = absurd (omega arith)
  inserted key (suc r) (k ∷ ks) [] w same le none = absurd (omega arith)
  inserted key (suc r) (k ∷ ks) (x ∷ xs) w same le none = elim (either (bytes_eq k key)) as
      (λ _. value_of key (insert (k ∷ ks) (suc r) key, insert (x ∷ xs) (suc r) w) ≡ Some w) [
        | inl is ↦ (let no : Some x ≡ None = sym (value_first key k ks x xs is) ∙ none in cc)
        | inr is ↦ value_next key k (insert ks r key) x (insert xs r w) is
            ∙ inserted key r ks xs w (omega arith) (omega arith) (sym (value_next key k ks x xs is) ∙ none)
      ]

  other_inserted : (key other : List ℕ) (r : ℕ) (ks : List (List ℕ)) (xs : List T) (w : T) → length ks ≡ length xs → r ≤ length ks →
      (key ≡ other → ⊥) → value_of other (insert ks r key, insert xs r w) ≡ value_of other (ks, xs)
  other_inserted key other zero ks xs w same le apart = value_next other key ks w xs (differs key other apart)
  other_inserted key other (suc r) [] xs w same le apart = absurd (omega arith)
  other_inserted key other (suc r) (k ∷ ks) [] w same le apart = absurd (omega arith)
  other_inserted key other (suc r) (k ∷ ks) (x ∷ xs) w same le apart = elim (either (bytes_eq k other)) as
      (λ _. value_of other (insert (k ∷ ks) (suc r) key, insert (x ∷ xs) (suc r) w) ≡ value_of other (k ∷ ks, x ∷ xs)) [
        | inl is ↦ value_first other k (insert ks r key) x (insert xs r w) is ∙ sym (value_first other k ks x xs is)
        | inr is ↦ value_next other k (insert ks r key) x (insert xs r w) is
            ∙ other_inserted key other r ks xs w (omega arith) (omega arith) apart
            ∙ sym (value_next other k ks x xs is)
      ]

  -- the map with a value under a new key, which is then written over
  module _ (key : List ℕ) (entries : List (List ℕ) × List T) (x w : T) (same : length entries.0 ≡ length entries.1)
      (none : place_of key entries.0 ≡ None) where
    abbrev after : List (List ℕ) × List T
    after = ((with_entry key x entries).0, slice_set (with_entry key x entries).1 (rank key entries.0) w)

    within : rank key entries.0 ≤ length entries.1
    within = let le : rank key entries.0 ≤ length entries.0 = rank-le key entries.0 in omega arith

    entry_added : with_entry key x entries ≡ put_at None key x entries
    entry_added = ap (λ place. put_at place key x entries) none

    after_is : after ≡ (insert entries.0 (rank key entries.0) key, insert entries.1 (rank key entries.0) w)
    after_is = ap (λ (added : List (List ℕ) × List T). (added.0, slice_set added.1 (rank key entries.0) w)) entry_added
        ∙ ap (λ xs. (insert entries.0 (rank key entries.0) key, xs)) (set_inserted entries.1 (rank key entries.0) x w within)

    pub added_there : slice_get (with_entry key x entries).1 (rank key entries.0) ≡ Some x
    added_there = ap (λ (added : List (List ℕ) × List T). slice_get added.1 (rank key entries.0)) entry_added
        ∙ inserted_there entries.1 (rank key entries.0) x within

    pub added_written : value_of key after ≡ Some w
    added_written = ap (value_of key) after_is
        ∙ inserted key (rank key entries.0) entries.0 entries.1 w same (rank-le key entries.0)
        (ap (λ place. option_and_then (λ at. slice_get entries.1 at) place) none)

    pub others_stay : (other : List ℕ) → (key ≡ other → ⊥) → value_of other after ≡ value_of other entries
    others_stay other apart = ap (value_of other) after_is
        ∙ other_inserted key other (rank key entries.0) entries.0 entries.1 w same (rank-le key entries.0) apart

-- ---- where a key that has a value stands

place_first : (key k : List ℕ) (ks : List (List ℕ)) → bytes_eq k key ≡ true → place_of key (k ∷ ks) ≡ Some 0
place_first key k ks is = rw (is, lt-ltb 0 (suc (length ks)) (omega arith)) refl

place_counted : (n m : ℕ) → cond (nat_lt (suc n) (suc m)) (Some (suc n)) None ≡ option_map suc (cond (nat_lt n m) (Some n) None)
place_counted n m = elim (cases_lt n m) as (λ _. cond (nat_lt (suc n) (suc m)) (Some (suc n)) None
    ≡ option_map suc (cond (nat_lt n m) (Some n) None)) [
      | inl lt ↦ (let both : suc n < suc m = omega arith in rw (lt-ltb n m lt, lt-ltb (suc n) (suc m) both) refl)
      | inr le ↦ (let both : suc m ≤ suc n = omega arith in rw (le-ltb n m le, le-ltb (suc n) (suc m) both) refl)
    ]

place_next : (key k : List ℕ) (ks : List (List ℕ)) → bytes_eq k key ≡ false → place_of key (k ∷ ks) ≡ option_map suc (place_of key ks)
place_next key k ks is =
    let n : ℕ = position_or_len (λ (k : List ℕ). bytes_eq k key) ks in
    let one : 1 + n ≡ suc n = omega arith in
    rw (is, one) (place_counted n (length ks))

counted_on : (key : List ℕ) (keys later : List (List ℕ)) (i : ℕ) (place : Option ℕ) → place_of key keys ≡ place →
    option_map suc place ≡ Some i → ((j : ℕ) → place_of key keys ≡ Some j → suc j ≡ i → place_of key later ≡ Some j) →
    option_map suc (place_of key later) ≡ Some i
counted_on key keys later i None at one goes = cc
counted_on key keys later i (Some j) at one goes =
    let same : suc j ≡ i = cc in
    ap (option_map suc) (goes j at same) ∙ one

-- a key that has a value stands where it stood
pub place_paired : (key : List ℕ) (keys : List (List ℕ)) (n i : ℕ) → place_of key keys ≡ Some i → i < n →
    place_of key (take n keys) ≡ Some i
place_paired key keys zero i is lt = absurd (omega arith)
place_paired key [] (suc n) i is lt = is
place_paired key (k ∷ keys) (suc n) i is lt = elim (either (bytes_eq k key)) as (λ _. place_of key (k ∷ take n keys) ≡ Some i) [
  | inl here ↦ place_first key k (take n keys) here ∙ sym (place_first key k keys here) ∙ is
  | inr further ↦ place_next key k (take n keys) further
      ∙ counted_on key keys (take n keys) i (place_of key keys) refl (sym (place_next key k keys further) ∙ is)
      (λ j at same. place_paired key keys n j at (omega arith))
]
