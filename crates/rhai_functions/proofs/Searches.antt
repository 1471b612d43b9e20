-- Searches from the end of a list and from its start.
use Rattle.std.proofs.Common.{◌≡◌, ◌<◌, ℕ, zero, suc, Bool, true, List, [], ◌∷◌, length, drop, Option, Some, None}
use Rattle.std.proofs.Common.{refl, sym, ap, ◌∙◌, arith, get_or}
use Rattle.rhai_functions.specs.Functions.{last_given, last_that}

module _ {A : Type 0} (fits : A → Bool) where
  last_here : (xs : List A) (i : ℕ) (d : A) → i < length xs → last_that fits (drop (suc i) xs) ≡ None →
      fits (get_or xs i d) ≡ true → last_that fits xs ≡ Some (get_or xs i d)
  last_here [] i d within later is = absurd (omega arith)
  last_here (x ∷ xs) zero d within later is = rw (later, is) refl
  last_here (x ∷ xs) (suc i) d within later is = rw (last_here xs i d (omega arith) later is) refl

  -- an item that fits, after which none does, is the last
  pub is_last : (xs : List A) (i : ℕ) (x : A) → i < length xs → last_that fits (drop (suc i) xs) ≡ None → x ≡ get_or xs i x →
      fits x ≡ true → last_that fits xs ≡ Some x
  is_last xs i x within later is test =
      last_here xs i x within later (ap fits (sym is) ∙ test) ∙ ap Some (sym is)

module _ {A B : Type 0} (gives : A → Option B) where
  -- what an item gives, behind which none gives anything, is the last
  pub ends_here : (xs : List A) (i : ℕ) (d : A) (b : B) → i < length xs → last_given gives (drop (suc i) xs) ≡ None →
      gives (get_or xs i d) ≡ Some b → last_given gives xs ≡ Some b
  ends_here [] i d b within later is = absurd (omega arith)
  ends_here (x ∷ xs) zero d b within later is = rw (later, is) refl
  ends_here (x ∷ xs) (suc i) d b within later is = rw (ends_here xs i d b (omega arith) later is) refl
