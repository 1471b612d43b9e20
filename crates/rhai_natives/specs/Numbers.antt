-- Arrays of integers.
use Rattle.std.specs.Prelude.{ℤ, pos, List, map}
use Rattle.rhai_values.specs.declared.base.value.Dynamic.{Dynamic}
use Rattle.rhai_values.specs.declared.base.value.Union.{Union}
use Rattle.rhai_values.specs.declared.base.value.Union.TheVariants as value
use Rattle.rhai_values.specs.Copy.{plain}

module _ {H : Type 0} where
  -- an integer as an item of an array
  abbrev pub item_of : ℤ → Dynamic H
  item_of number = plain (value.Int number)

  -- the items of an array of integers
  abbrev pub items_of : List ℤ → List (Dynamic H)
  items_of numbers = map item_of numbers

  -- the integer that a value is, nought where it is none
  abbrev pub integer_or_zero : Union H → ℤ
  integer_or_zero (value.Int number) = number
  integer_or_zero _ = pos 0

  -- the integers that items are
  abbrev pub numbers_of : List (Dynamic H) → List ℤ
  numbers_of items = map (λ v. integer_or_zero v.value) items
