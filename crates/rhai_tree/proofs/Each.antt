-- Tests of lists, one item further.
use Rattle.std.proofs.Common.{◌≡◌, ℕ, zero, suc, ◌+◌, ◌<◌, Bool, true, false, ◌&&◌, List, [], ◌∷◌, map, refl, sym, ap, ◌∙◌, length, take}
use Rattle.std.proofs.Common.{get_or, arith, add-one}
use Rattle.rhai_tree.specs.SameLiteral.{each}

both : (a b : Bool) → a ≡ true → b ≡ true → (a && b) ≡ true
both a b p q = rw (p, q)

first : (a b : Bool) → (a && b) ≡ true → a ≡ true
first true b e = refl
first false b e = e

second : (a b : Bool) → (a && b) ≡ true → b ≡ true
second true b e = e
second false b e = cc

refuses : (a b : Bool) → false ≡ b → false ≡ (a && b)
refuses true b e = e
refuses false b e = refl

refuses_first : (a b : Bool) → false ≡ a → false ≡ (a && b)
refuses_first true b e = cc
refuses_first false b e = refl

module _ {A B : Type 0} (f : A → B → Bool) where
  each_at : (xs : List A) (ys : List B) (i : ℕ) (x : A) (y : B) → i < length xs → i < length ys →
      each (map f (take i xs)) (take i ys) ≡ true →
      f (get_or xs i x) (get_or ys i y) ≡ true → each (map f (take (suc i) xs)) (take (suc i) ys) ≡ true
  each_at [] ys i x y lt below each_here here = absurd (omega arith)
  each_at (a ∷ xs) [] i x y lt below each_here here = absurd (omega arith)
  each_at (a ∷ xs) (b ∷ ys) zero x y lt below each_here here = both (f a b) true here refl
  each_at (a ∷ xs) (b ∷ ys) (suc i) x y lt below each_here here =
      both (f a b) _ (first (f a b) _ each_here) (each_at xs ys i x y (omega arith) (omega arith) (second (f a b) _ each_here) here)

  pub each_more : (xs : List A) (ys : List B) (i : ℕ) (x : A) (y : B) → i < length xs → i < length ys → x ≡ get_or xs i x →
      y ≡ get_or ys i y →
      each (map f (take i xs)) (take i ys) ≡ true → true ≡ f x y → each (map f (take (i + 1) xs)) (take (i + 1) ys) ≡ true
  each_more xs ys i x y lt below is-x is-y before here = rw add-one
      (each_at xs ys i x y lt below before ((λ k. f (sym is-x k) (sym is-y k)) ∙ sym here))

  each_not_at : (xs : List A) (ys : List B) (i : ℕ) (x : A) (y : B) → i < length xs → i < length ys →
      false ≡ f (get_or xs i x) (get_or ys i y) → false ≡ each (map f xs) ys
  each_not_at [] ys i x y lt below here = absurd (omega arith)
  each_not_at (a ∷ xs) [] i x y lt below here = absurd (omega arith)
  each_not_at (a ∷ xs) (b ∷ ys) zero x y lt below here = refuses_first (f a b) _ here
  each_not_at (a ∷ xs) (b ∷ ys) (suc i) x y lt below here = refuses (f a b) _ (each_not_at xs ys i x y (omega arith) (omega arith) here)

  pub each_not : (xs : List A) (ys : List B) (i : ℕ) (x : A) (y : B) → i < length xs → i < length ys → x ≡ get_or xs i x →
      y ≡ get_or ys i y →
      false ≡ f x y → false ≡ each (map f xs) ys
  each_not xs ys i x y lt below is-x is-y here = each_not_at xs ys i x y lt below (here ∙ (λ k. f (is-x k) (is-y k)))

  pub each_uneven : (xs : List A) (ys : List B) → (length xs ≡ length ys → ⊥) → false ≡ each (map f xs) ys
  each_uneven [] [] ne = absurd (ne refl)
  each_uneven [] (y ∷ ys) ne = refl
  each_uneven (x ∷ xs) [] ne = refl
  each_uneven (x ∷ xs) (y ∷ ys) ne = refuses (f x y) _ (each_uneven xs ys (λ e. ne (ap suc e)))
