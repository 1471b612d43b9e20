-- Comparisons, and the types of values as operators tell them apart.
use Rattle.std.specs.Prelude.{ℕ, Bool, true, false, not, ◌==◌, Option, Some, None}
use Rattle.std.specs.declared.cmp.Ordering.{Ordering}
use Rattle.std.specs.Ordering.{is_eq, is_ne, is_lt, is_le, is_gt, is_ge}
use Rattle.rhai_tree.specs.declared.token.Token.{Token}
use Rattle.rhai_tree.specs.declared.token.Token.TheVariants as token
use Rattle.rhai_values.specs.declared.base.value.Union.{Union, Array', Map', FnPtr'}
use Rattle.rhai_values.specs.declared.base.value.Union.TheVariants as value

-- what a comparison says of an order; None for an operator that does not compare
abbrev pub comparison_of_order : Token → Ordering → Option Bool
comparison_of_order token.EqualsTo order = Some (is_eq order)
comparison_of_order token.NotEqualsTo order = Some (is_ne order)
comparison_of_order token.LessThan order = Some (is_lt order)
comparison_of_order token.LessThanEqualsTo order = Some (is_le order)
comparison_of_order token.GreaterThan order = Some (is_gt order)
comparison_of_order token.GreaterThanEqualsTo order = Some (is_ge order)
comparison_of_order _ order = None

-- what a comparison says of two values of different types: only that they differ
abbrev pub comparison_of_types : Token → Option Bool
comparison_of_types token.EqualsTo = Some false
comparison_of_types token.NotEqualsTo = Some true
comparison_of_types token.LessThan = Some false
comparison_of_types token.LessThanEqualsTo = Some false
comparison_of_types token.GreaterThan = Some false
comparison_of_types token.GreaterThanEqualsTo = Some false
comparison_of_types _ = None

-- a number for each type of values; a host value and a cell's handle have none
abbrev pub type_of : {H : Type 0} → Union H → Option ℕ
type_of value.Unit = Some 0
type_of (value.Bool x) = Some 1
type_of (value.Int x) = Some 2
type_of (value.Char x) = Some 3
type_of (value.Str x) = Some 4
type_of (value.ExclusiveRange start end) = Some 5
type_of (value.InclusiveRange start end) = Some 6
type_of (Array' shape items) = Some 7
type_of (value.Blob bytes) = Some 8
type_of (Map' shape entries) = Some 9
type_of (FnPtr' shape pointer) = Some 10
type_of (value.Host x) = None
type_of (value.Cell id) = None

-- two types are known, and are not the same
abbrev pub differ : Option ℕ → Option ℕ → Bool
differ (Some m) (Some n) = not (m == n)
differ (Some m) None = false
differ None other = false
