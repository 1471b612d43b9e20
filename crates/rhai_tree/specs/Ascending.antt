-- Keys in the strict order of their bytes.
use Rattle.std.specs.Prelude.{ℕ, Bool, true, ◌&&◌, List, [], ◌∷◌}
use Rattle.std.specs.Ordering.{is_lt, nat_cmp}
use Rattle.std.specs.Cmp.Lexicographic.{slice_cmp}

-- a text comes before another in the order of their bytes
abbrev pub is_before : List ℕ → List ℕ → Bool
is_before key next = is_lt (slice_cmp nat_cmp key next)

-- a key comes before the first of others, where there is one
abbrev pub is_below : List ℕ → List (List ℕ) → Bool
is_below key [] = true
is_below key (next ∷ rest) = is_before key next && is_below next rest

-- each key comes before the next
abbrev pub is_ascending : List (List ℕ) → Bool
is_ascending [] = true
is_ascending (key ∷ rest) = is_below key rest
