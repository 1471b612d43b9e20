-- The numbers and the cases of a `switch`.
use Rattle.std.specs.Prelude.{ℕ, Bool, true, false, not, ◌&&◌, ◌||◌, List, [], ◌∷◌, nat_lt, Option, Some, None}
use Rattle.rhai_tree.specs.declared.expr.RangeCase.TheVariants.{ExclusiveInt, InclusiveInt}
use Rattle.rhai_tree.specs.SameLiteral.{same_literal}
use Rattle.rhai_tree.specs.Types.{Literal, RangeCase, SwitchCase}

-- each of some numbers is that of a result, of which there are so many
abbrev pub all_below : (count : ℕ) → List ℕ → Bool
all_below count [] = true
all_below count (number ∷ numbers) = nat_lt number count && all_below count numbers

-- the numbers of a case: one at least, each that of a result
abbrev pub are_blocks : (count : ℕ) → List ℕ → Bool
are_blocks count [] = false
are_blocks count (number ∷ numbers) = all_below count (number ∷ numbers)

-- each of some cases has numbers, each that of a result
abbrev pub are_cases : (count : ℕ) → List SwitchCase → Bool
are_cases count [] = true
are_cases count (this ∷ cases) = are_blocks count this.blocks && are_cases count cases

-- the number of a range's result
abbrev pub block_of : RangeCase → ℕ
block_of (ExclusiveInt from to number) = number
block_of (InclusiveInt from to number) = number

-- the number of each of some ranges is that of a result
abbrev pub are_ranges : (count : ℕ) → List RangeCase → Bool
are_ranges count [] = true
are_ranges count (range ∷ ranges) = nat_lt (block_of range) count && are_ranges count ranges

-- the number of the default, where there is one, is that of a result
abbrev pub is_default : (count : ℕ) → Option ℕ → Bool
is_default count None = true
is_default count (Some number) = nat_lt number count

-- one of some cases has this value
abbrev pub has_case : Literal → List SwitchCase → Bool
has_case value [] = false
has_case value (this ∷ cases) = same_literal value this.value || has_case value cases

-- no two cases are equal
abbrev pub all_differ : List SwitchCase → Bool
all_differ [] = true
all_differ (this ∷ cases) = not (has_case this.value cases) && all_differ cases

-- each number of a `switch` is that of a result, each case has one, and no two cases are equal
abbrev pub is_switch : (count : ℕ) → List SwitchCase → List RangeCase → Option ℕ → Bool
is_switch count cases ranges default =
    are_cases count cases && (are_ranges count ranges && (is_default count default && all_differ cases))
