-- Arithmetic of integers of 64 bits: the value, or why there is none.
use Rattle.std.specs.Prelude.{ℕ, ◌^◌, ℤ, pos, negsuc, ◌+ℤ◌, ◌-ℤ◌, ◌*ℤ◌, neg_ℤ, int_div, int_rem, nat_lt, Bool, true, false, Result, Ok}
use Rattle.std.specs.Prelude.{Err, if◌then◌else◌}
use Rattle.std.specs.Ordering.{int_eq}
use Rattle.std.specs.Int.{w64, int_pow, int_shl, int_shr}
use Rattle.rhai_operators.specs.declared.integers.ArithmeticFault.{ArithmeticFault}
use Rattle.rhai_operators.specs.declared.integers.ArithmeticFault.TheVariants as fault

-- an integer lies from -2^63 to 2^63 - 1
abbrev pub fits : ℤ → Bool
fits (pos n) = nat_lt n (2 ^ 63)
fits (negsuc n) = nat_lt n (2 ^ 63)

-- the exact result, where it fits
abbrev pub if_fits : ℤ → Result ℤ ArithmeticFault
if_fits z = if fits z then Ok z else Err fault.Overflow

-- the sum, where it fits
abbrev pub sum : ℤ → ℤ → Result ℤ ArithmeticFault
sum x y = if_fits (x +ℤ y)

-- the difference, where it fits
abbrev pub difference : ℤ → ℤ → Result ℤ ArithmeticFault
difference x y = if_fits (x -ℤ y)

-- the product, where it fits
abbrev pub product : ℤ → ℤ → Result ℤ ArithmeticFault
product x y = if_fits (x *ℤ y)

-- the quotient rounded towards zero: only the least integer by -1 does not fit
abbrev pub quotient : ℤ → ℤ → Result ℤ ArithmeticFault
quotient x y = if int_eq y (pos 0) then Err fault.DivisionByZero else if_fits (int_div x y)

-- what that quotient leaves, with the sign of the first operand; it overflows where the quotient does
abbrev pub remainder : ℤ → ℤ → Result ℤ ArithmeticFault
remainder x y = if int_eq y (pos 0) then Err fault.DivisionByZero else if fits (int_div x y) then Ok (int_rem x y) else Err fault.Overflow

-- the opposite: only that of the least integer does not fit
abbrev pub opposite : ℤ → Result ℤ ArithmeticFault
opposite x = if_fits (neg_ℤ x)

-- the power, where the exponent is allowed
abbrev pub power_if : Bool → ℤ → ℕ → Result ℤ ArithmeticFault
power_if true x n = if_fits (int_pow x n)
power_if false x n = Err fault.BadExponent

-- an exponent lies from 0 to 2^32 - 1
abbrev pub power : ℤ → ℤ → Result ℤ ArithmeticFault
power x (pos n) = power_if (nat_lt n (2 ^ 32)) x n
power x (negsuc n) = Err fault.BadExponent

-- the shift, where its distance is allowed: bits past the top are dropped
abbrev pub left_if : Bool → ℤ → ℕ → Result ℤ ArithmeticFault
left_if true x n = Ok (int_shl w64 x n)
left_if false x n = Err fault.BadShift

-- a shift goes by 0 to 63 bits
abbrev pub shifted_left : ℤ → ℤ → Result ℤ ArithmeticFault
shifted_left x (pos n) = left_if (nat_lt n 64) x n
shifted_left x (negsuc n) = Err fault.BadShift

-- the shift, where its distance is allowed: the sign is kept
abbrev pub right_if : Bool → ℤ → ℕ → Result ℤ ArithmeticFault
right_if true x n = Ok (int_shr x n)
right_if false x n = Err fault.BadShift

-- a shift goes by 0 to 63 bits
abbrev pub shifted_right : ℤ → ℤ → Result ℤ ArithmeticFault
shifted_right x (pos n) = right_if (nat_lt n 64) x n
shifted_right x (negsuc n) = Err fault.BadShift
