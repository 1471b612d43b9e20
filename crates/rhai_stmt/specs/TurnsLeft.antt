-- What a `for` in code has left to walk, as the machine's turns.
use Rattle.std.specs.Prelude.{◌≡◌, ℕ, ℤ, pos, negsuc, ◌^◌, ◌-◌, ◌≤ℤ◌, map, drop}
use Rattle.std.specs.Int.{int_gap}
use Rattle.std.specs.Str.{chars}
use Rattle.rhai_machine.specs.language.Turns as machine
use Rattle.rhai_machine.specs.language.Turns.{byte_value, letter_value, OfItems, OfIntegers}
use Rattle.rhai_stmt.specs.Items.{items_in}
use Rattle.rhai_stmt.specs.declared.turns.Turns.{Turns}
use Rattle.rhai_stmt.specs.declared.turns.Turns.TheVariants as left

module _ {H : Type 0} where
  -- the turns that a `for` in code has left, as the machine has them
  abbrev pub turns_in : Turns H → machine.Turns H
  turns_in (left.Items items) = OfItems (items_in items)
  turns_in (left.Bytes bytes) = OfItems (map byte_value bytes)
  turns_in (left.Letters letters) = OfItems (map letter_value letters)
  turns_in (left.Integers integers) = OfIntegers integers.0 integers.1
