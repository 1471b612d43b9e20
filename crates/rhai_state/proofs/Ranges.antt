-- Entries that go from the midst of a list.
use Rattle.std.proofs.Common.{◌≡◌, ◌≤◌, ◌<◌, ◌+◌, ◌-◌, ◌++◌, ◌∷◌, [], ℕ, zero, suc, Bool, true, false, List, length, drop, take, refl, ap}
use Rattle.std.proofs.Common.{arith}
use Rattle.std.specs.Prelude.{◌&&◌, nat_lt, remove}
use Rattle.std.proofs.lemmas.Bool.{ltb-true}

-- one more goes behind those that stay
pub one_more : {A : Type 0} (xs : List A) (i m : ℕ) → i ≤ m → i < length (take i xs ++ drop m xs) →
    remove (take i xs ++ drop m xs) i ≡ take i xs ++ drop (suc m) xs
one_more [] zero zero le there = absurd (omega (arith, there))
one_more [] zero (suc m) le there = absurd (omega (arith, there))
one_more [] (suc i) zero le there = absurd (omega (arith, le))
one_more [] (suc i) (suc m) le there = absurd (omega (arith, there))
one_more (x ∷ xs) zero zero le there = refl
one_more (x ∷ xs) zero (suc m) le there = one_more xs zero m (omega arith) there
one_more (x ∷ xs) (suc i) zero le there = absurd (omega (arith, le))
one_more (x ∷ xs) (suc i) (suc m) le there = ap (λ ys. x ∷ ys) (one_more xs i m (omega (arith, le)) (omega (arith, there)))

both : (a b : Bool) → (a && b) ≡ true → (a ≡ true) × (b ≡ true)
both true true is = (refl, refl)
both true false is = cc
both false b is = cc

-- some are left to go, and there is one that stands where they do
pub one_is_left : (left start size : ℕ) → (nat_lt 0 left && nat_lt start size) ≡ true → (0 < left) × (start < size)
one_is_left left start size is = let two = both (nat_lt 0 left) (nat_lt start size) is in
    (ltb-true 0 left two.0, ltb-true start size two.1)
