-- An item that is taken out of an array.
use Rattle.std.proofs.Common.{◌≡◌, ◌∷◌, [], ◌+◌, ℕ, zero, suc, List, Some, drop, set, ap, ◌∙◌, arith}
use Rattle.std.specs.List.{slice_get}

-- what is left from one index on is what stood there and what is left from the next index on
pub taken : {X : Type 0} (xs : List X) (i : ℕ) (x y : X) → slice_get xs i ≡ Some x → drop i xs ≡ x ∷ drop (i + 1) (set xs i y)
taken [] i x y is = cc
taken (z ∷ xs) zero x y is = let same : z ≡ x = cc in ap (λ v. v ∷ xs) same
taken (z ∷ xs) (suc i) x y is =
    let next : suc (i + 1) ≡ suc i + 1 = omega arith in
    taken xs i x y is ∙ ap (λ n. x ∷ drop n (z ∷ set xs i y)) next
