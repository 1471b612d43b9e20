-- Tests of lists, and of all that the items of a list give, an item further.
use Rattle.std.proofs.Common.{◌≡◌, ℕ, zero, suc, ◌+◌, ◌<◌, Bool, true, false, ◌&&◌, List, [], ◌∷◌, Option, None, refl, sym, ap}
use Rattle.std.proofs.Common.{◌∙◌, length, take, get_or, flat_map, arith}
use Rattle.std.specs.List.{list_all, slice_get}
use Rattle.std.specs.Option.{option_flatten}
use Rattle.std.proofs.lemmas.List.Folds.{list_all-append, list_all_more, list_all_at}

module _ {A : Type 0} (p : A → Bool) where
  pub passed_more : (xs : List A) (i : ℕ) (d : A) → i < length xs → list_all p (take i xs) ≡ true → true ≡ p (get_or xs i d) →
      list_all p (take (i + 1) xs) ≡ true
  passed_more xs i d lt before here = list_all_more p xs i d lt ∙ (λ k. before k && sym here k)

  pub passed_not : (xs : List A) (i : ℕ) (d : A) → i < length xs → false ≡ p (get_or xs i d) → false ≡ list_all p xs
  passed_not xs i d lt here = sym (list_all_at p xs i d lt (sym here))

module _ {X A : Type 0} (p : X → Bool) (f : A → List X) where
  -- all that the items give passes, where all that each gives does
  all_given : (xs : List A) → list_all p (flat_map f xs) ≡ list_all (λ x. list_all p (f x)) xs
  all_given [] = refl
  all_given (x ∷ xs) = list_all-append p (f x) (flat_map f xs) ∙ ap (λ rest. list_all p (f x) && rest) (all_given xs)

  pub given_more_at : (xs : List A) (i : ℕ) (d : A) → i < length xs → list_all p (flat_map f (take i xs)) ≡ true →
      true ≡ list_all p (f (get_or xs i d)) → list_all p (flat_map f (take (i + 1) xs)) ≡ true
  given_more_at xs i d lt before here =
      all_given _ ∙ passed_more (λ x. list_all p (f x)) xs i d lt (sym (all_given (take i xs)) ∙ before) here

  pub given_not_at : (xs : List A) (i : ℕ) (d : A) → i < length xs → false ≡ list_all p (f (get_or xs i d)) →
      false ≡ list_all p (flat_map f xs)
  given_not_at xs i d lt here = passed_not (λ x. list_all p (f x)) xs i d lt here ∙ sym (all_given xs)

  -- the same, where the item is known
  pub given_more : (xs : List A) (i : ℕ) (x : A) → i < length xs → x ≡ get_or xs i x → list_all p (flat_map f (take i xs)) ≡ true →
      true ≡ list_all p (f x) → list_all p (flat_map f (take (i + 1) xs)) ≡ true
  given_more xs i x lt is before here = given_more_at xs i x lt before (here ∙ ap (λ y. list_all p (f y)) is)

  pub given_not : (xs : List A) (i : ℕ) (x : A) → i < length xs → x ≡ get_or xs i x → false ≡ list_all p (f x) →
      false ≡ list_all p (flat_map f xs)
  given_not xs i x lt is here = given_not_at xs i x lt (here ∙ ap (λ y. list_all p (f y)) is)

-- what may stand at an index, where the index is one of the list's
pub there : {A : Type 0} (xs : List (Option A)) (i : ℕ) → i < length xs → option_flatten (slice_get xs i) ≡ get_or xs i None
there [] i lt = absurd (omega arith)
there (x ∷ xs) zero lt = refl
there (x ∷ xs) (suc i) lt = there xs i (omega arith)
