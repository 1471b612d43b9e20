-- Where the newest of several things of one name stands, the oldest first.
use Rattle.std.specs.Prelude.{ℕ, zero, suc, Bool, true, false, List, [], ◌∷◌, Option, Some, None}
use Rattle.std.specs.Str.{bytes_eq}

-- the index found further on, one more from here; or else this one, where the name stands here
abbrev pub or_here : Option ℕ → Bool → Option ℕ
or_here (Some at) test = Some (suc at)
or_here None true = Some zero
or_here None false = None

-- the index of the newest item of a name, counted from the start
abbrev pub newest : {A : Type 0} → (A → List ℕ) → List ℕ → List A → Option ℕ
newest name_of name [] = None
newest name_of name (item ∷ items) = or_here (newest name_of name items) (bytes_eq (name_of item) name)
