-- A `for`, and what it walks: the turns that it has left.
use Rattle.std.specs.Prelude.{ℕ, zero, suc, ℤ, pos, ◌+ℤ◌, List, [], ◌∷◌, map, Option, Some, None}
use Rattle.std.specs.Int.{int_gap}
use Rattle.std.specs.Str.{chars}
use Rattle.rhai_machine.specs.Types.{Dynamic, Expr, Ident, StmtBlock}
use Rattle.rhai_values.specs.declared.base.value.FnPtrKind.TheOpen as union
use Rattle.rhai_values.specs.declared.base.value.Union.TheVariants as value
use Rattle.rhai_values.specs.Copy.{plain}
use Rattle.rhai_values.specs.Layers.{UnionLayer}

-- a `for`: its variable, its counter if it has one, what it walks, and its body
pub record ForLoop : Type 0 where
  pub variable : Ident
  pub counter : Option Ident
  pub items : Expr
  pub body : StmtBlock

-- the turns that are left: one for each of some items, or one for each of so many integers, from this one upward
pub data Turns (H : Type 0) : Type 0 where
  OfItems : List (Dynamic H) → Turns H
  OfIntegers : (next : ℤ) → (count : ℕ) → Turns H

module _ {H : Type 0} where
  -- an integer, read-write
  abbrev pub integer_value : ℤ → Dynamic H
  integer_value n = plain (value.Int n)

  -- a byte as an integer, read-write
  abbrev pub byte_value : ℕ → Dynamic H
  byte_value byte = integer_value (pos byte)

  -- a character, read-write
  abbrev pub letter_value : ℕ → Dynamic H
  letter_value letter = plain (value.Char letter)

  -- what a value gives to walk: an array its items with their modes, a blob its bytes, a text its characters, a range its integers upward;
  -- anything else can not be walked
  abbrev pub turns_of : UnionLayer H → Option (Turns H)
  turns_of (union.Array items) = Some (OfItems items)
  turns_of (union.Blob bytes) = Some (OfItems (map byte_value bytes))
  turns_of (union.Str text) = Some (OfItems (map letter_value (chars text)))
  turns_of (union.ExclusiveRange start last) = Some (OfIntegers start (int_gap start last))
  turns_of (union.InclusiveRange start last) = Some (OfIntegers start (int_gap start (last +ℤ pos 1)))
  turns_of _ = None

  -- the next item, and the turns after it
  abbrev pub next_turn : Turns H → Option (Dynamic H × Turns H)
  next_turn (OfItems []) = None
  next_turn (OfItems (item ∷ items)) = Some (item, OfItems items)
  next_turn (OfIntegers next zero) = None
  next_turn (OfIntegers next (suc count)) = Some (integer_value next, OfIntegers (next +ℤ pos 1) count)
