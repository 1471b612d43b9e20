-- The arguments that the program takes.
use Rattle.std.specs.Prelude.{◌≡◌, ◌⊎◌, ℕ, List, [], ◌∷◌, codes}

-- no arguments, or the word 'row' and another
abbrev pub IsCall : List (List ℕ) → Type 0
IsCall words = (words ≡ []) ⊎ ((row : List ℕ) × (words ≡ codes "row" ∷ row ∷ []))
