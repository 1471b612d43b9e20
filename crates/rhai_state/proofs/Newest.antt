-- Where the newest of a name stands, found from the end, and by its offset from there.
use Rattle.std.proofs.Common.{◌≡◌, ◌<◌, ◌≤◌, ◌-◌, ℕ, zero, suc, Bool, true, false, IsTrue, List, []}
use Rattle.std.proofs.Common.{◌∷◌, length, map, drop, Option, Some, None}
use Rattle.std.proofs.Common.{IfSome, refl, sym, ap, ◌∙◌, arith, get_or}
use Rattle.std.proofs.lemmas.Bool.{eqb-true}
use Rattle.std.proofs.lemmas.List.{length-map}
use Rattle.std.specs.Int.NonZero.{non_zero_usize_get}
use Rattle.std.specs.Str.{bytes_eq}
use Rattle.std.specs.declared.num.NonZeroUsize.{NonZeroUsize}
use Rattle.rhai_tree.specs.Names.{further, offset_of, stands, is_good}
use Rattle.rhai_state.specs.Newest.{newest, or_here}
use Rattle.rhai_state.specs.Scope.{name_of as entry_name, index_of, place_of, in_use, Fits}
use Rattle.rhai_state.specs.declared.scope.ScopeEntry.{ScopeEntry}

module _ {A : Type 0} (name_of : A → List ℕ) (name : List ℕ) where
  here : (xs : List A) (i : ℕ) (d : A) → i < length xs → newest name_of name (drop (suc i) xs) ≡ None →
      bytes_eq (name_of (get_or xs i d)) name ≡ true → newest name_of name xs ≡ Some i
  here [] i d within later is = absurd (omega arith)
  here (x ∷ xs) zero d within later is = rw (later, is) refl
  here (x ∷ xs) (suc i) d within later is = rw (here xs i d (omega arith) later is) refl

  -- an item of the name, after which none has it, is the newest
  pub newest_here : (xs : List A) (i : ℕ) (x : A) → i < length xs → newest name_of name (drop (suc i) xs) ≡ None →
      x ≡ get_or xs i x → bytes_eq (name_of x) name ≡ true → newest name_of name xs ≡ Some i
  newest_here xs i x within later is test = here xs i x within later (ap (λ y. bytes_eq (name_of y) name) (sym is) ∙ test)

  not_here : (xs : List A) (i : ℕ) (d : A) → i < length xs → newest name_of name (drop (suc i) xs) ≡ None →
      bytes_eq (name_of (get_or xs i d)) name ≡ false → newest name_of name (drop i xs) ≡ None
  not_here [] i d within later is = absurd (omega arith)
  not_here (x ∷ xs) zero d within later is = rw (later, is) refl
  not_here (x ∷ xs) (suc i) d within later is = not_here xs i d (omega arith) later is

  -- where neither an item nor one after it has the name, none from it on has it
  pub newest_not_here : (xs : List A) (i : ℕ) (x : A) → i < length xs → newest name_of name (drop (suc i) xs) ≡ None →
      x ≡ get_or xs i x → bytes_eq (name_of x) name ≡ false → newest name_of name (drop i xs) ≡ None
  newest_not_here xs i x within later is test = not_here xs i x within later (ap (λ y. bytes_eq (name_of y) name) (sym is) ∙ test)

  -- the index at an offset from the end, counted from the start
  abbrev from_end : ℕ → ℕ → Option ℕ
  from_end n zero = None
  from_end n (suc k) = Some (n - suc k)

  further_within : (offset n m : ℕ) (test : Bool) → offset ≤ n → m ≡ n → further offset test (suc m) ≤ suc n
  further_within (suc k) n m test within is = omega arith
  further_within zero n m true within is = omega arith
  further_within zero n m false within is = omega arith

  offset_within : (xs : List A) → offset_of name (map name_of xs) ≤ length xs
  offset_within [] = omega arith
  offset_within (x ∷ xs) = further_within (offset_of name (map name_of xs)) (length xs) (length (map name_of xs))
      (bytes_eq (name_of x) name) (offset_within xs) (length-map xs name_of)

  further_place : (offset n m : ℕ) (test : Bool) → offset ≤ n → m ≡ n →
      or_here (from_end n offset) test ≡ from_end (suc n) (further offset test (suc m))
  further_place (suc k) n m test within is = ap Some (omega arith)
  further_place zero n m true within is = ap Some (omega arith)
  further_place zero n m false within is = refl

  -- the newest of a name, counted from the start and from the end
  newest_from_end : (xs : List A) → newest name_of name xs ≡ from_end (length xs) (offset_of name (map name_of xs))
  newest_from_end [] = refl
  newest_from_end (x ∷ xs) = ap (λ place. or_here place (bytes_eq (name_of x) name)) (newest_from_end xs)
      ∙ further_place (offset_of name (map name_of xs)) (length xs) (length (map name_of xs)) (bytes_eq (name_of x) name)
      (offset_within xs) (length-map xs name_of)

  stands_there : (offset : ℕ) (xs : List A) → IsTrue (stands name offset (map name_of xs)) →
      (Some (length xs - offset) ≡ newest name_of name xs) × (offset ≤ length xs)
  stands_there zero xs h = cc
  stands_there (suc k) xs h =
      let is : offset_of name (map name_of xs) ≡ suc k = eqb-true _ _ h in
      (sym (newest_from_end xs ∙ ap (from_end (length xs)) is), rw is at (offset_within xs))

  -- where it is found there is one
  within_step : (items : List A) (later : Option ℕ) (here : Bool) (at : ℕ) → ((j : ℕ) → later ≡ Some j → j < length items) →
      or_here later here ≡ Some at → at < suc (length items)
  within_step items (Some j) here at rest is = let below : j < length items = rest j refl in let same : suc j ≡ at = cc in omega arith
  within_step items None true at rest is = let same : zero ≡ at = cc in omega arith
  within_step items None false at rest is = cc

  newest_within : (items : List A) (at : ℕ) → newest name_of name items ≡ Some at → at < length items
  newest_within [] at is = cc
  newest_within (item ∷ items) at is = within_step items (newest name_of name items) (bytes_eq (name_of item) name) at
      (newest_within items) is

  pub found_within : (items : List A) (found : Option ℕ) → found ≡ newest name_of name items → IfSome found (λ at. at < length items)
  found_within items (Some at) is = newest_within items at (sym is)
  found_within items None is = tt

module _ {H : Type 0} where
  -- a good offset leads to the newest entry of its name
  pub place_is_newest : (offset : Option NonZeroUsize) (name : List ℕ) (entries : List (ScopeEntry H)) →
      IsTrue (is_good offset name (map entry_name entries)) → place_of offset name entries ≡ index_of name entries
  place_is_newest (Some offset) name entries h = (stands_there entry_name name (non_zero_usize_get offset) entries h).0
  place_is_newest None name entries h = refl

  -- and is at most the length
  pub good_fits : (offset : Option NonZeroUsize) (name : List ℕ) (entries : List (ScopeEntry H)) →
      IsTrue (is_good offset name (map entry_name entries)) → Fits offset (length entries)
  good_fits (Some offset) name entries h = (stands_there entry_name name (non_zero_usize_get offset) entries h).1
  good_fits None name entries h = tt

-- whether variables are searched for or not
pub good_in_use : (searches : Bool) (offset : Option NonZeroUsize) (name : List ℕ) (names : List (List ℕ)) →
    IsTrue (is_good offset name names) → IsTrue (is_good (in_use searches offset) name names)
good_in_use true offset name names h = refl
good_in_use false offset name names h = h
