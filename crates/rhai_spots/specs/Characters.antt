-- The characters of a text.
use Rattle.std.specs.Prelude.{ℕ, List, slice_index, slice_range, slice_set}
use Rattle.std.specs.List.{replace_range}
use Rattle.std.specs.Str.{chars, encode_utf8_all}

-- a character of a text
abbrev pub char_of : List ℕ → ℕ → ℕ
char_of text at = slice_index (chars text) at

-- a text with another character at a position
abbrev pub with_char : List ℕ → ℕ → ℕ → List ℕ
with_char text at c = encode_utf8_all (slice_set (chars text) at c)

-- the characters of a text from one up to another
abbrev pub slice_of : List ℕ → (start end : ℕ) → List ℕ
slice_of text start end = encode_utf8_all (slice_range (chars text) start end)

-- a text with others instead of its characters from one up to another
abbrev pub with_slice : List ℕ → (start end : ℕ) → List ℕ → List ℕ
with_slice text start end new = encode_utf8_all (replace_range (chars text) start end (chars new))
