-- What cursors keep.
use Rattle.std.specs.Prelude.{ℤ, pos, negsuc, ◌^◌, ◌-◌, ◌≤ℤ◌}

-- the next is no less than the least integer of 64 bits, and the end is at most one past the greatest
abbrev pub AreIntegers : (next last : ℤ) → Type 0
AreIntegers next last = (negsuc (2 ^ 63 - 1) ≤ℤ next) × (last ≤ℤ pos (2 ^ 63))
