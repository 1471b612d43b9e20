-- Names that are joined.
use Rattle.std.proofs.Common.{◌≡◌, List, [], ◌∷◌, ◌++◌, map, flat_map, refl, ap}
use Rattle.std.specs.List.{join_by}

module _ {X A : Type 0} (f : X → List A) (sep : List A) where
  behind_each : (xs : List X) → flat_map (λ x. sep ++ f x) xs ≡ flat_map (λ name. sep ++ name) (map f xs)
  behind_each [] = refl
  behind_each (x ∷ xs) = ap (λ rest. (sep ++ f x) ++ rest) (behind_each xs)

  -- what gives names is joined as the names are
  pub join_of_names : (xs : List X) → join_by f sep xs ≡ join_by (λ name. name) sep (map f xs)
  join_of_names [] = refl
  join_of_names (x ∷ xs) = ap (λ rest. f x ++ rest) (behind_each xs)
