-- Places that are emptied one after the other.
use Rattle.std.proofs.Common.{◌≡◌, ◌<◌, ◌++◌, ℕ, zero, suc, List, [], ◌∷◌, length, drop, replicate, slice_set, refl, ap, arith}

-- one more is empty
pub empty_next : {A : Type 0} (u : A) (xs : List A) (at : ℕ) → at < length xs →
    slice_set (replicate at u ++ drop at xs) at u ≡ replicate (suc at) u ++ drop (suc at) xs
empty_next u [] zero there = absurd (omega (arith, there))
empty_next u [] (suc at) there = absurd (omega (arith, there))
empty_next u (x ∷ xs) zero there = refl
empty_next u (x ∷ xs) (suc at) there = ap (λ ys. u ∷ ys) (empty_next u xs at (omega (arith, there)))

-- and then all are
pub all_empty : {A : Type 0} (u : A) (xs : List A) → replicate (length xs) u ++ drop (length xs) xs ≡ replicate (length xs) u
all_empty u [] = refl
all_empty u (x ∷ xs) = ap (λ ys. u ∷ ys) (all_empty u xs)
