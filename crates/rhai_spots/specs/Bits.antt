-- The 64 bits of an integer, from the lowest.
use Rattle.std.specs.Prelude.{ℕ, zero, suc, ◌+◌, ◌-◌, ◌*◌, ◌/◌, ◌%◌, ◌==◌, ℤ, pos, Bool, false, if◌then◌else◌, List, [], ◌∷◌, length}
use Rattle.std.specs.Prelude.{take, slice_index_or, slice_range, slice_set}
use Rattle.std.specs.List.{replace_range}
use Rattle.std.specs.Int.{w64, cast_unsigned, cast_signed}

-- the binary digits of a number, from the lowest, so many of them
unfoldable pub digits : (count : ℕ) → ℕ → List Bool
digits zero n = []
digits (suc k) n = (n % 2 == 1) ∷ digits k (n / 2)

-- the number that binary digits make
abbrev pub number : List Bool → ℕ
number [] = 0
number (one ∷ rest) = (if one then 1 else 0) + 2 * number rest

-- the bits of an integer, in two's complement
abbrev pub bits : ℤ → List Bool
bits n = digits 64 (cast_unsigned w64 n)

-- the integer that 64 bits make
abbrev pub integer : List Bool → ℤ
integer some = cast_signed w64 (number some)

-- a bit of an integer
abbrev pub bit : ℤ → ℕ → Bool
bit n at = slice_index_or (bits n) at false

-- an integer with another bit at a position
abbrev pub with_bit : ℤ → ℕ → Bool → ℤ
with_bit n at on = integer (slice_set (bits n) at on)

-- what some bits make: all 64 the integer itself, fewer a number from zero
abbrev pub field_of : List Bool → ℤ
field_of some = if length some == 64 then integer some else pos (number some)

-- the bits of an integer from one up to another
abbrev pub field : ℤ → (start end : ℕ) → ℤ
field n start end = field_of (slice_range (bits n) start end)

-- an integer with the low bits of another instead of its bits from one up to another
abbrev pub with_field : ℤ → (start end : ℕ) → ℤ → ℤ
with_field n start end v = integer (replace_range (bits n) start end (take (end - start) (bits v)))
