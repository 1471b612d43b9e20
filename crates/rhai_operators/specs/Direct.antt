-- What an operator gives for two integers where that is all a caller wants: a truth value, or an integer that fits.
use Rattle.std.specs.Prelude.{ℤ, Bool, Option, Some, None, Ok}
use Rattle.rhai_values.specs.declared.base.value.Union.{Union}
use Rattle.rhai_values.specs.declared.base.value.Union.TheVariants as value
use Rattle.rhai_operators.specs.Operators.{Outcome}

module _ {H : Type 0} where
  -- the truth value that a value is, None for a value of another type
  abbrev pub truth_in : Union H → Option Bool
  truth_in (value.Bool b) = Some b
  truth_in _ = None

  -- the integer that a value is, None for a value of another type
  abbrev pub integer_in : Union H → Option ℤ
  integer_in (value.Int z) = Some z
  integer_in _ = None

  -- the truth value that an operator gave
  abbrev pub truth_given : Outcome H → Option Bool
  truth_given (Some (Ok v)) = truth_in v
  truth_given _ = None

  -- the integer that it gave
  abbrev pub integer_given : Outcome H → Option ℤ
  integer_given (Some (Ok v)) = integer_in v
  integer_given _ = None
