-- An entry that is written over itself.
use Rattle.std.proofs.Common.{◌≡◌, ℕ, zero, suc, List, [], ◌∷◌, Some, Result, Ok, Err, ap, slice_get, slice_set}
use Rattle.std.specs.Result.{OnErr, OnOk}

pub set_there : {A : Type 0} (xs : List A) (i : ℕ) (x : A) → slice_get xs i ≡ Some x → slice_set xs i x ≡ xs
set_there [] i x is = cc
set_there (z ∷ xs) zero x is = let same : x ≡ z = cc in ap (λ y. y ∷ xs) same
set_there (z ∷ xs) (suc i) x is = ap (λ ys. z ∷ ys) (set_there xs i x is)

-- what follows from a fact of one way out
pub ok_then : {A E P Q : Type 0} (r : Result A E) → OnOk r P → (P → Q) → OnOk r Q
ok_then (Ok v) p go = go p
ok_then (Err e) p go = tt

pub err_then : {A E P Q : Type 0} (r : Result A E) → OnErr r P → (P → Q) → OnErr r Q
err_then (Ok v) p go = tt
err_then (Err e) p go = go p
