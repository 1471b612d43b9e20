-- The definitions at concrete values, by computing alone. The expected values are Rust's own.
use Rattle.std.proofs.Common.{◌≡◌, ℕ, ℤ, pos, negsuc, Bool, true, false, List, [], ◌∷◌, Option, Some, None, Result, Ok, Err, refl}
use Rattle.rhai_tree.specs.declared.token.Token.{Token}
use Rattle.rhai_tree.specs.declared.token.Token.TheVariants as token
use Rattle.rhai_values.specs.declared.base.value.Union.{Union}
use Rattle.rhai_values.specs.declared.base.value.Union.TheVariants as value
use Rattle.rhai_operators.specs.declared.integers.ArithmeticFault.TheVariants as fault
use Rattle.rhai_operators.specs.Operators.{Outcome, binary_at, unary_at, op_assign_at}

abbrev least : ℤ
least = negsuc 0x7fff_ffff_ffff_ffff

abbrev greatest : ℤ
greatest = pos 0x7fff_ffff_ffff_ffff

abbrev integers : Token → ℤ → ℤ → Outcome ⊥
integers op x y = binary_at op (value.Int x) (value.Int y)

abbrev integer : ℤ → Outcome ⊥
integer z = Some (Ok (value.Int z))

overflowing_sum : integers token.Plus greatest (pos 1) ≡ Some (Err fault.Overflow)
overflowing_sum = refl

least_by_minus_one : integers token.Divide least (negsuc 0) ≡ Some (Err fault.Overflow)
least_by_minus_one = refl

rest_of_least : integers token.Modulo least (negsuc 0) ≡ Some (Err fault.Overflow)
rest_of_least = refl

truncated : integers token.Modulo (negsuc 6) (pos 3) ≡ integer (negsuc 0)
truncated = refl

bits_past_the_top : integers token.LeftShift (pos 3) (pos 63) ≡ integer least
bits_past_the_top = refl

sign_kept : integers token.RightShift (negsuc 7) (pos 1) ≡ integer (negsuc 3)
sign_kept = refl

big_exponent : integers token.PowerOf (pos 3) (pos 4294967296) ≡ Some (Err fault.BadExponent)
big_exponent = refl

odd_power : integers token.PowerOf (negsuc 0) (pos 5) ≡ integer (negsuc 0)
odd_power = refl

no_power : integers token.PowerOf (pos 0) (pos 0) ≡ integer (pos 1)
no_power = refl

least_power : integers token.PowerOf (negsuc 1) (pos 63) ≡ integer least
least_power = refl

masked : integers token.Ampersand (negsuc 0) (pos 12) ≡ integer (pos 12)
masked = refl

mixed_order : binary_at {H = ⊥} token.LessThan (value.Int (pos 1)) (value.Str (49 ∷ [])) ≡ Some (Ok (value.Bool false))
mixed_order = refl

arrays : binary_at {H = ⊥} token.EqualsTo (value.Array []) (value.Array []) ≡ None
arrays = refl

cells : (id : _) → binary_at {H = ⊥} token.NotEqualsTo (value.Cell id) (value.Int (pos 1)) ≡ None
cells id = refl
