-- Where a key stands among ascending keys, and the value that a map has for it.
use Rattle.std.specs.Prelude.{ℕ, not, List, length, take, slice_get, slice_set, insert, Option, Some, None, option_and_then, position}
use Rattle.std.specs.List.{position_or_len}
use Rattle.std.specs.Str.{bytes_eq}
use Rattle.rhai_tree.specs.Ascending.{is_before}

-- the index of a key, if it is there
abbrev pub place_of : List ℕ → List (List ℕ) → Option ℕ
place_of key keys = position (λ k. bytes_eq k key) keys

-- where a key stands or would go: at the first key that does not come before it, or at the end
abbrev pub rank : List ℕ → List (List ℕ) → ℕ
rank key keys = position_or_len (λ k. not (is_before k key)) keys

-- the entries of a map: its keys that have a value, and its values that have a key, which are all of them in any map that a run has
abbrev pub paired : {T : Type 0} → List (List ℕ) × List T → List (List ℕ) × List T
paired t = (take (length t.1) t.0, take (length t.0) t.1)

-- the value that a map has for a key, if the key is there
abbrev pub value_of : {T : Type 0} → List ℕ → List (List ℕ) × List T → Option T
value_of key t = option_and_then (λ at. slice_get t.1 at) (place_of key t.0)

-- a map with a value for a key: at its index where the key is there, else under the new key
abbrev pub put_at : {T : Type 0} → Option ℕ → List ℕ → T → List (List ℕ) × List T → List (List ℕ) × List T
put_at (Some at) key x t = (t.0, slice_set t.1 at x)
put_at None key x t = (insert t.0 (rank key t.0) key, insert t.1 (rank key t.0) x)

-- a map with a value for a key, which replaces the one that it had
abbrev pub with_entry : {T : Type 0} → List ℕ → T → List (List ℕ) × List T → List (List ℕ) × List T
with_entry key x t = put_at (place_of key t.0) key x t
