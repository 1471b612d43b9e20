-- Texts as their bytes: their order, and a character as a text.
use Rattle.std.specs.Prelude.{ℕ, List}
use Rattle.std.specs.declared.cmp.Ordering.{Ordering}
use Rattle.std.specs.Ordering.{nat_cmp}
use Rattle.std.specs.Cmp.Lexicographic.{slice_cmp}
use Rattle.std.specs.Char.{encode_utf8}

-- the first byte that differs decides, and else the shorter text comes first
abbrev pub text_order : List ℕ → List ℕ → Ordering
text_order x y = slice_cmp nat_cmp x y

-- a character's bytes
abbrev pub text_of : ℕ → List ℕ
text_of c = encode_utf8 c
