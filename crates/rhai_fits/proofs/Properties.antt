-- Lists of what may be reached, all of which has a property.
use Rattle.std.proofs.Common.{zero, suc, List, [], ◌∷◌, ◌++◌, refl, subst, arith}
use Rattle.std.specs.Prelude.{⊤, Contains}
use Rattle.rhai_values.specs.ValueContents.{Reached}

module _ (P : Reached → Type 0) where
  -- each of them has the property
  abbrev pub AllHave : List Reached → Type 0
  AllHave [] = ⊤
  AllHave (r ∷ rest) = P r × AllHave rest

  pub all_joined : (a b : List Reached) → AllHave a → AllHave b → AllHave (a ++ b)
  all_joined [] b h g = g
  all_joined (r ∷ a) b h g = (h.0, all_joined a b h.1 g)

  pub all_left : (a b : List Reached) → AllHave (a ++ b) → AllHave a
  all_left [] b h = tt
  all_left (r ∷ a) b h = (h.0, all_left a b h.1)

  pub all_right : (a b : List Reached) → AllHave (a ++ b) → AllHave b
  all_right [] b h = h
  all_right (r ∷ a) b h = all_right a b h.1

  -- one of them, by where it stands in the list
  pub all_at : (held : List Reached) (r : Reached) → AllHave held → Contains held r → P r
  all_at [] r h (k, below, is) = absurd (omega (arith, below))
  all_at (s ∷ rest) r h (zero, below, is) = subst P is h.0
  all_at (s ∷ rest) r h (suc k, below, is) = all_at rest r h.1 (k, omega (arith, below), is)

  -- what stands in the rest of a list stands in the list
  further : (r s : Reached) (rest : List Reached) → Contains rest r → Contains (s ∷ rest) r
  further r s rest (k, below, is) = (suc k, omega (arith, below), is)

  pub all_of : (held : List Reached) → ((r : Reached) → Contains held r → P r) → AllHave held
  all_of [] f = tt
  all_of (s ∷ rest) f = (f s (zero, omega arith, refl), all_of rest (λ r c. f r (further r s rest c)))
