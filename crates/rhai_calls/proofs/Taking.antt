-- The first of some arguments, and the others.
use Rattle.std.proofs.Common.{◌≡◌, suc, ◌-◌, ◌<◌, ◌≤◌, List, [], ◌∷◌, ◌++◌, ap, refl, length, take, drop, get_or, arith}
use Rattle.std.proofs.lemmas.List.{take_all}

-- there are none
pub none_below : {A : Type 0} (xs : List A) → length xs < 1 → xs ≡ []
none_below [] below = refl
none_below (x ∷ xs) below = absurd (omega arith)

-- all but the first
abbrev pub others : {A : Type 0} → List A → List A
others xs = take (length xs - 1) (drop 1 xs)

-- the first, and the others
pub first_and_others : {A : Type 0} (xs : List A) (d v : A) → 1 ≤ length xs → v ≡ get_or xs 0 d → xs ≡ v ∷ others xs
first_and_others [] d v some is = absurd (omega arith)
first_and_others (x ∷ xs) d v some is =
    let long : length xs ≤ suc (length xs) - 1 = omega arith in
    rw (is, take_all (suc (length xs) - 1) xs long) refl

-- a list that is written over itself
same_written : {A : Type 0} (xs : List A) → take (length xs) (xs ++ drop (length xs) xs) ≡ xs
same_written [] = refl
same_written (x ∷ xs) = ap (λ ys. x ∷ ys) (same_written xs)

pub written : {A : Type 0} (xs ys : List A) → ys ≡ xs → take (length xs) (ys ++ drop (length ys) xs) ≡ xs
written xs ys is = rw is (same_written xs)
