-- What a `switch` chooses from, and the results that a value leads to, in the order in which their conditions are tested.
use Rattle.std.specs.Prelude.{ℕ, ℤ, Bool, true, false, ◌&&◌, List, [], ◌∷◌, ◌++◌, Option, Some, None, slice_get, int_le, int_lt}
use Rattle.std.specs.Prelude.{if◌then◌else◌, option_map, option_and_then}
use Rattle.rhai_machine.specs.Types.{ConditionalExpr, Dynamic, Expr, RangeCase, SwitchCase, Union}
use Rattle.rhai_tree.specs.declared.expr.RangeCase.TheVariants.{ExclusiveInt, InclusiveInt}
use Rattle.rhai_values.specs.declared.base.value.Union.TheVariants as value
use Rattle.rhai_values.specs.Hashable.{is_hashable}
use Rattle.rhai_values.specs.LiteralEquals.{equals}

-- the results under their conditions; the cases and the ranges, with the numbers of their results; and the number of the default
pub record Cases : Type 0 where
  pub results : List ConditionalExpr
  pub cases : List SwitchCase
  pub ranges : List RangeCase
  pub default : Option ℕ

-- ---- numbers

-- whether an integer lies in a range
abbrev pub is_within : ℤ → RangeCase → Bool
is_within n (ExclusiveInt start last number) = int_le start n && int_lt n last
is_within n (InclusiveInt start last number) = int_le start n && int_le n last

-- the number of the result that a range leads to
abbrev pub number_of : RangeCase → ℕ
number_of (ExclusiveInt start last number) = number
number_of (InclusiveInt start last number) = number

-- the numbers of the results that ranges with this integer lead to, in order
abbrev pub in_ranges : ℤ → List RangeCase → List ℕ
in_ranges n [] = []
in_ranges n (range ∷ ranges) = if is_within n range then number_of range ∷ in_ranges n ranges else in_ranges n ranges

-- the numbers that a value leads to: one that can not be hashed leads to none
abbrev pub if_hashable : Bool → List ℕ → List ℕ
if_hashable true numbers = numbers
if_hashable false numbers = []

module _ {H : Type 0} where
  -- the numbers that ranges lead to, for an integer alone
  abbrev pub by_ranges : Union H → List RangeCase → List ℕ
  by_ranges (value.Int n) ranges = in_ranges n ranges
  by_ranges _ ranges = []

  -- the numbers of the first case that a value equals by type and content
  abbrev pub by_cases : Dynamic H → List SwitchCase → List ℕ
  by_cases v [] = []
  by_cases v (case ∷ cases) = if equals case.value v then case.blocks else by_cases v cases

  -- the numbers that a value leads to: those of its case, and then those of its ranges
  abbrev pub numbers_for : Cases → Dynamic H → List ℕ
  numbers_for choice v = if_hashable (is_hashable v) (by_cases v choice.cases ++ by_ranges v.value choice.ranges)

-- ---- results

-- a result before the others; where a number has none, it is passed over
abbrev pub with_result : Option ConditionalExpr → List ConditionalExpr → List ConditionalExpr
with_result (Some result) rest = result ∷ rest
with_result None rest = rest

-- the results of some numbers, in order
abbrev pub results_of : List ConditionalExpr → List ℕ → List ConditionalExpr
results_of results [] = []
results_of results (number ∷ numbers) = with_result (slice_get results number) (results_of results numbers)

-- the results that a value may have, in order
abbrev pub candidates : {H : Type 0} → Cases → Dynamic H → List ConditionalExpr
candidates choice v = results_of choice.results (numbers_for choice v)

-- the result where no candidate's condition holds; its own condition does not count
abbrev pub default_of : Cases → Option Expr
default_of choice = option_map (λ result. result.expr) (option_and_then (λ number. slice_get choice.results number) choice.default)
