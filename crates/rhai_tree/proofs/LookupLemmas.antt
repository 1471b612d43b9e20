-- Ascending keys: what a comparison with one key says of the others, and where a key stands.
use Rattle.std.proofs.Common.{◌≡◌, ℕ, zero, suc, ◌+◌, ◌<◌, ◌≤◌, ◌⊎◌, inl, inr, Bool, true, false, ◌&&◌, not, List, [], ◌∷◌, Some, None}
use Rattle.std.proofs.Common.{refl, sym, ap, ◌∙◌, length, get_or, arith, ok_or, Ok, Err, cond}
use Rattle.std.proofs.lemmas.Bool.{lt-ltb, le-ltb, ltb-false, cases_lt}
use Rattle.std.proofs.Math.Nat.{eq-or-lt_of_le}
use Rattle.std.proofs.lemmas.List.{get_or_default}
use Rattle.std.proofs.lemmas.Cmp.{nat_list_cmp_total}
use Rattle.std.proofs.lemmas.Map.Text.{is_eq-slice_cmp}
use Rattle.std.proofs.lemmas.List.Sums.{position_or_len_is, prefix_len-le-length, fails_before_first}
use Rattle.std.specs.declared.cmp.Ordering.{Ordering}
use Rattle.std.specs.declared.cmp.Ordering.TheVariants.{Less, Equal, Greater}
use Rattle.std.specs.Ordering.{is_lt, is_gt, is_eq, nat_cmp, ordering_reverse}
use Rattle.std.specs.Cmp.Lexicographic.{slice_cmp}
use Rattle.std.specs.List.{position, position_or_len}
use Rattle.std.specs.Str.{bytes_eq}
use Rattle.rhai_tree.specs.Ascending.{is_before, is_below, is_ascending}
use Rattle.rhai_tree.specs.Lookup.{paired, place_of, rank}
use Rattle.std.specs.List.{insert, remove}
use Rattle.std.proofs.Common.{take, take_all}

abbrev pub compare : List ℕ → List ℕ → Ordering
compare = slice_cmp nat_cmp

is_less : (o : Ordering) → is_lt o ≡ true → o ≡ Less
is_less Less e = refl
is_less Equal e = cc
is_less Greater e = cc

is_greater : (o : Ordering) → is_gt o ≡ true → o ≡ Greater
is_greater Less e = cc
is_greater Equal e = cc
is_greater Greater e = refl

first : (a b : Bool) → (a && b) ≡ true → a ≡ true
first true b e = refl
first false b e = e

second : (a b : Bool) → (a && b) ≡ true → b ≡ true
second true b e = e
second false b e = cc

both : (a b : Bool) → a ≡ true → b ≡ true → (a && b) ≡ true
both a b p q = rw (p, q)

either : (b : Bool) → (b ≡ true) ⊎ (b ≡ false)
either true = inl refl
either false = inr refl

turned : (x y : List ℕ) → compare x y ≡ Less → compare y x ≡ Greater
turned x y e = nat_list_cmp_total.antisymm y x ∙ ap ordering_reverse e

turned_back : (x y : List ℕ) → compare x y ≡ Greater → compare y x ≡ Less
turned_back x y e = nat_list_cmp_total.antisymm y x ∙ ap ordering_reverse e

-- a key that comes before an ascending list comes before each of it
before_each : (key : List ℕ) (keys : List (List ℕ)) (j : ℕ) (d : List ℕ) → is_below key keys ≡ true → j < length keys →
    compare key (get_or keys j d) ≡ Less
before_each key [] j d e lt = absurd (omega arith)
before_each key (next ∷ keys) zero d e lt = is_less _ (first _ _ e)
before_each key (next ∷ keys) (suc j) d e lt =
    nat_list_cmp_total.trans key next (get_or keys j d) (is_less _ (first _ _ e)) (before_each next keys j d (second _ _ e) (omega arith))

rest_ascends : (key : List ℕ) (keys : List (List ℕ)) → is_below key keys ≡ true → is_ascending keys ≡ true
rest_ascends key [] e = refl
rest_ascends key (next ∷ keys) e = second _ _ e

ascends : (keys : List (List ℕ)) (i j : ℕ) (d : List ℕ) → is_ascending keys ≡ true → i < j → j < length keys →
    compare (get_or keys i d) (get_or keys j d) ≡ Less
ascends [] i j d e lt below = absurd (omega arith)
ascends (key ∷ keys) zero zero d e lt below = absurd (omega arith)
ascends (key ∷ keys) zero (suc j) d e lt below = before_each key keys j d e (omega arith)
ascends (key ∷ keys) (suc i) zero d e lt below = absurd (omega arith)
ascends (key ∷ keys) (suc i) (suc j) d e lt below = ascends keys i j d (rest_ascends key keys e) (omega arith) (omega arith)

module _ (keys : List (List ℕ)) (key : List ℕ) (up : is_ascending keys ≡ true) (middle : ℕ) (lt : middle < length keys) (x : List ℕ)
    (is : x ≡ get_or keys middle x) where
  at_middle : (o : Ordering) → compare x key ≡ o → (d : List ℕ) → compare (get_or keys middle d) key ≡ o
  at_middle o e d = ap (λ k. compare k key) (get_or_default keys middle d x lt ∙ sym is) ∙ e

  -- keys up to one that comes before the key come before it
  pub below_middle : compare x key ≡ Less → (k : ℕ) (d : List ℕ) → k < middle + 1 → compare (get_or keys k d) key ≡ Less
  below_middle e k d le = elim (eq-or-lt_of_le (let p : k ≤ middle = omega arith in p)) as (λ _. compare (get_or keys k d) key ≡ Less) [
    | inl same ↦ ap (λ n. compare (get_or keys n d) key) same ∙ at_middle Less e d
    | inr less ↦ nat_list_cmp_total.trans (get_or keys k d) (get_or keys middle d) key (ascends keys k middle d up less lt)
        (at_middle Less e d)
  ]

  -- keys from one that comes after the key on come after it
  pub above_middle : compare x key ≡ Greater → (k : ℕ) (d : List ℕ) → middle ≤ k → k < length keys → compare (get_or keys k d) key ≡ Greater
  above_middle e k d le below = elim (eq-or-lt_of_le le) as (λ _. compare (get_or keys k d) key ≡ Greater) [
    | inl same ↦ ap (λ n. compare (get_or keys n d) key) (sym same) ∙ at_middle Greater e d
    | inr less ↦ turned key (get_or keys k d)
        (nat_list_cmp_total.trans key (get_or keys middle d) (get_or keys k d)
        (turned_back (get_or keys middle d) key (at_middle Greater e d)) (ascends keys middle k d up less below))
  ]

differs : (x y : List ℕ) (o : Ordering) → compare x y ≡ o → is_eq o ≡ false → bytes_eq x y ≡ false
differs x y o e unequal = sym (is_eq-slice_cmp x y) ∙ ap is_eq e ∙ unequal

same : (x y : List ℕ) → compare x y ≡ Equal → bytes_eq x y ≡ true
same x y e = sym (is_eq-slice_cmp x y) ∙ ap is_eq e

module _ {X : Type 0} (p : X → Bool) (xs : List X) where
  place_is : (i : ℕ) → position_or_len p xs ≡ i → i < length xs → position p xs ≡ Some i
  place_is i e lt = rw e (rw (lt-ltb i (length xs) lt) refl)

  place_none : position_or_len p xs ≡ length xs → position p xs ≡ None
  place_none e = rw e (rw (le-ltb (length xs) (length xs) (omega arith)) refl)

module _ (keys : List (List ℕ)) (key : List ℕ) where
  -- a key that comes before one that is equal to the key comes before the key
  before_equal : (a x : List ℕ) → compare a x ≡ Less → compare x key ≡ Equal → compare a key ≡ Less
  before_equal a x less e = turned_back key a (sym (nat_list_cmp_total.congr x key a e) ∙ turned a x less)

  -- the search has met the key
  pub met : (i : ℕ) (x : List ℕ) → i < length keys → x ≡ get_or keys i x → is_ascending keys ≡ true → compare x key ≡ Equal →
      Ok i ≡ ok_or (place_of key keys) (rank key keys)
  met i x lt is up e =
      let e_at : compare (get_or keys i x) key ≡ Equal = ap (λ y. compare y key) (sym is) ∙ e in
      ap (λ o. ok_or o (rank key keys)) (sym (place_is (λ k. bytes_eq k key) keys i
      (position_or_len_is (λ k. bytes_eq k key) keys i x (omega arith)
      (λ k less. differs (get_or keys k x) key Less (before_equal (get_or keys k x) (get_or keys i x) (ascends keys k i x up less lt)
      e_at) refl)
      (λ _. same (get_or keys i x) key e_at)) lt))

  unequal : (i : ℕ) → ((k : ℕ) (d : List ℕ) → k < i → compare (get_or keys k d) key ≡ Less) →
      ((k : ℕ) (d : List ℕ) → i ≤ k → k < length keys → compare (get_or keys k d) key ≡ Greater) →
      (k : ℕ) → k < length keys → bytes_eq (get_or keys k []) key ≡ false
  unequal i below above k less = elim (cases_lt k i) as (λ _. bytes_eq (get_or keys k []) key ≡ false) [
    | inl low ↦ differs (get_or keys k []) key Less (below k [] low) refl
    | inr high ↦ differs (get_or keys k []) key Greater (above k [] high less) refl
  ]

  -- the search has come to an end
  pub missed : (i : ℕ) → i ≤ length keys → ((k : ℕ) (d : List ℕ) → k < i → compare (get_or keys k d) key ≡ Less) →
      ((k : ℕ) (d : List ℕ) → i ≤ k → k < length keys → compare (get_or keys k d) key ≡ Greater) →
      Err i ≡ ok_or (place_of key keys) (rank key keys)
  missed i le below above =
      ap (λ r. Err r) (sym (position_or_len_is (λ k. not (is_before k key)) keys i [] le
      (λ k less. ap (λ o. not (is_lt o)) (below k [] less)) (λ less. ap (λ o. not (is_lt o)) (above i [] (omega arith) less)))) ∙
      ap (λ o. ok_or o (rank key keys)) (sym (place_none (λ k. bytes_eq k key) keys
      (position_or_len_is (λ k. bytes_eq k key) keys (length keys) [] (omega arith) (unequal i below above)
      (λ less. absurd (omega arith)))))

pub rank-le : (key : List ℕ) (keys : List (List ℕ)) → rank key keys ≤ length keys
rank-le key keys = prefix_len-le-length _ keys

-- what is inserted and removed again leaves the list
pub remove-insert : {X : Type 0} (xs : List X) (i : ℕ) (y : X) → i ≤ length xs → remove (insert xs i y) i ≡ xs
remove-insert [] zero y le = refl
remove-insert [] (suc i) y le = absurd (omega arith)
remove-insert (x ∷ xs) zero y le = refl
remove-insert (x ∷ xs) (suc i) y le = ap (λ rest. x ∷ rest) (remove-insert xs i y (omega arith))

no_place : {X : Type 0} (b : Bool) (i : X) → cond b (Some i) None ≡ None → b ≡ false
no_place true i e = cc
no_place false i e = refl

none_passes : {X : Type 0} (p : X → Bool) (xs : List X) → position p xs ≡ None → (k : ℕ) (d : X) → k < length xs → p (get_or xs k d) ≡ false
none_passes p xs e k d lt = fails_before_first p xs k d (let past :
    length xs ≤ position_or_len p xs = ltb-false _ _ (no_place _ (position_or_len p xs) e) in omega arith)

module _ (key : List ℕ) where
  after : (k : List ℕ) (o : Ordering) → compare k key ≡ o → is_before k key ≡ false → bytes_eq k key ≡ false → compare k key ≡ Greater
  after k Less e late unequal = let clash : false ≡ true = sym late ∙ ap is_lt e in cc
  after k Equal e late unequal = let clash : false ≡ true = sym unequal ∙ same k key e in cc
  after k Greater e late unequal = e

  insert_first : (k : List ℕ) (keys : List (List ℕ)) → is_before k key ≡ false →
      insert (k ∷ keys) (rank key (k ∷ keys)) key ≡ key ∷ k ∷ keys
  insert_first k keys e = rw e refl

  insert_next : (k : List ℕ) (keys : List (List ℕ)) → is_before k key ≡ true →
      insert (k ∷ keys) (rank key (k ∷ keys)) key ≡ k ∷ insert keys (rank key keys) key
  insert_next k keys e = rw e (ap (λ n. insert (k ∷ keys) n key) (let one : 1 + rank key keys ≡ suc (rank key keys) = omega arith in one))

  below_insert : (k : List ℕ) (keys : List (List ℕ)) → is_before k key ≡ true → is_below k keys ≡ true →
      is_ascending (insert keys (rank key keys) key) ≡ true →
      is_below k (insert keys (rank key keys) key) ≡ true
  below_insert k [] before e up = both _ true before refl
  below_insert k (next ∷ keys) before e up = elim (either (is_before next key)) as
      (λ _. is_below k (insert (next ∷ keys) (rank key (next ∷ keys)) key) ≡ true) [
        | inl early ↦ rw (insert_next next keys early) (both _ _ (first _ _ e) (ap is_ascending (sym (insert_next next keys early)) ∙ up))
        | inr other ↦ rw (insert_first next keys other) (both _ _ before (ap is_ascending (sym (insert_first next keys other)) ∙ up))
      ]

  not_before : (k : List ℕ) → is_before k key ≡ false → bytes_eq k key ≡ false → is_before key k ≡ true
  not_before k e unequal = ap is_lt (turned_back k key (after k (compare k key) refl e unequal))

  -- a new key at the index where it goes keeps the order
  ascends_with : (keys : List (List ℕ)) → is_ascending keys ≡ true →
      ((i : ℕ) (d : List ℕ) → i < length keys → bytes_eq (get_or keys i d) key ≡ false) →
      is_ascending (insert keys (rank key keys) key) ≡ true
  ascends_with [] up other = refl
  ascends_with (k ∷ keys) up other = elim (either (is_before k key)) as
      (λ _. is_ascending (insert (k ∷ keys) (rank key (k ∷ keys)) key) ≡ true) [
        | inl early ↦ rw (insert_next k keys early) (below_insert k keys early up
            (ascends_with keys (rest_ascends k keys up) (λ i d lt. other (suc i) d (omega arith))))
        | inr late ↦ rw (insert_first k keys late) (both _ _ (not_before k late (other 0 [] (omega arith))) up)
      ]

-- a new key at the index where it goes keeps the order
pub insert_ascends : (key : List ℕ) (keys : List (List ℕ)) → is_ascending keys ≡ true → place_of key keys ≡ None →
    is_ascending (insert keys (rank key keys) key) ≡ true
insert_ascends key keys up absent = ascends_with key keys up (none_passes (λ k. bytes_eq k key) keys absent)

-- a map with as many keys as values has them all as entries
pub paired_same : {T : Type 0} → (t : List (List ℕ) × List T) → length t.0 ≡ length t.1 → paired t ≡ t
paired_same (keys, xs) same =
    ap (λ ks. (ks, take (length keys) xs)) (take_all (length xs) keys (omega arith))
    ∙ ap (λ ys. (keys, ys)) (take_all (length keys) xs (omega arith))
