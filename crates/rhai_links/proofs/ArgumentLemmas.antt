-- Arguments that need no step.
use Rattle.std.proofs.Common.{◌≡◌, true, [], ◌∷◌, Option, Some, None, is_some, refl}
use Rattle.std.specs.Option.{option_map}

-- a value that is there
pub there : {A : Type 0} (o : Option A) → is_some o ≡ true → (v : A) × (o ≡ Some v) × (option_map (λ x. x ∷ []) o ≡ Some (v ∷ []))
there None is = cc
there (Some v) is = (v, refl, refl)
