-- Spots in a value: the places where a value stands, and the parts that are read.
use Rattle.std.specs.Prelude.{ℕ, ◌<◌, ◌≤◌, nat_lt, nat_le, pos, ⊤, Bool, true, false, ◌&&◌, length, slice_get, slice_set, slice_index}
use Rattle.std.specs.Prelude.{Option, None}
use Rattle.std.specs.Str.{chars}
use Rattle.rhai_spots.specs.Types.{Dynamic, Spot, Union}
use Rattle.rhai_values.specs.declared.base.value.Union.TheVariants as value
use Rattle.rhai_values.specs.declared.base.value.FnPtrKind.TheOpen as layer
use Rattle.rhai_values.specs.Layers.{UnionLayer, layer_of}
use Rattle.rhai_spots.specs.declared.spot.Spot.TheVariants as spot
use Rattle.rhai_spots.specs.Bits.{bit, field}
use Rattle.rhai_spots.specs.Characters.{char_of, slice_of}

-- a spot of an integer: one of its 64 bits, or those from one up to another
abbrev pub IsOfBits : Spot → Type 0
IsOfBits (spot.Bit at) = at < 64
IsOfBits (spot.BitField start end) = (start ≤ end) × (end ≤ 64)
IsOfBits _ = ⊥

-- a spot of a text of so many characters: one of them, or those from one up to another
abbrev pub IsOfText : ℕ → Spot → Type 0
IsOfText count (spot.Char at) = at < count
IsOfText count (spot.Slice start end) = start ≤ end
IsOfText count _ = ⊥

-- a spot of an array of so many items
abbrev pub IsOfArray : ℕ → Spot → Type 0
IsOfArray count (spot.Item at) = at < count
IsOfArray count _ = ⊥

-- a spot of a blob of so many bytes
abbrev pub IsOfBlob : ℕ → Spot → Type 0
IsOfBlob count (spot.Byte at) = at < count
IsOfBlob count _ = ⊥

-- a spot of a map of so many entries: the value of one, or of a key that it does not have
abbrev pub IsOfMap : ℕ → Spot → Type 0
IsOfMap count (spot.Value at) = at < count
IsOfMap count spot.Missing = ⊤
IsOfMap count _ = ⊥

module _ {H : Type 0} where
  -- a spot is one of this kind of value
  abbrev pub IsThere : UnionLayer H → Spot → Type 0
  IsThere (layer.Int n) at = IsOfBits at
  IsThere (layer.Str text) at = IsOfText (length (chars text)) at
  IsThere (layer.Array items) at = IsOfArray (length items) at
  IsThere (layer.Blob bytes) at = IsOfBlob (length bytes) at
  IsThere (layer.Map entries) at = IsOfMap (length entries.1) at
  IsThere _ at = ⊥

  -- a spot where a value stands
  abbrev pub IsPlace : UnionLayer H → Spot → Type 0
  IsPlace source (spot.Item at) = IsThere source (spot.Item at)
  IsPlace source (spot.Value at) = IsThere source (spot.Value at)
  IsPlace source _ = ⊥

  -- a spot that is read and put back
  abbrev pub IsPart : UnionLayer H → Spot → Type 0
  IsPart source (spot.Item at) = ⊥
  IsPart source (spot.Value at) = ⊥
  IsPart source spot.Missing = ⊥
  IsPart source other = IsThere source other

  -- whether a spot is one that is read and put back
  abbrev pub is_part : UnionLayer H → Spot → Bool
  is_part (layer.Int n) (spot.Bit at) = nat_lt at 64
  is_part (layer.Int n) (spot.BitField start end) = nat_le start end && nat_le end 64
  is_part (layer.Str text) (spot.Char at) = nat_lt at (length (chars text))
  is_part (layer.Str text) (spot.Slice start end) = nat_le start end
  is_part (layer.Blob bytes) (spot.Byte at) = nat_lt at (length bytes)
  is_part _ _ = false

  -- ---- places

  -- the value at a place
  abbrev pub value_in : UnionLayer H → Spot → Option (Dynamic H)
  value_in (layer.Array items) (spot.Item at) = slice_get items at
  value_in (layer.Map entries) (spot.Value at) = slice_get entries.1 at
  value_in _ _ = None

  -- the value at a place of a value
  abbrev pub value_at : Dynamic H → Spot → Option (Dynamic H)
  value_at source at = value_in (layer_of source) at

  -- a kind of value with another value at a place
  abbrev pub with_value_in : Union H → UnionLayer H → Spot → Dynamic H → Union H
  with_value_in source (layer.Array items) (spot.Item at) v = value.Array (slice_set items at v)
  with_value_in source (layer.Map entries) (spot.Value at) v = value.Map (entries.0, slice_set entries.1 at v)
  with_value_in source _ _ v = source

  -- a value with another value at a place
  abbrev pub with_value : Dynamic H → Spot → Dynamic H → Dynamic H
  with_value source at v = record source { value = with_value_in source.value (layer_of source) at v }

  -- ---- parts

  -- what a part shows
  abbrev pub part_in : UnionLayer H → Spot → Union H
  part_in (layer.Int n) (spot.Bit at) = value.Bool (bit n at)
  part_in (layer.Int n) (spot.BitField start end) = value.Int (field n start end)
  part_in (layer.Str text) (spot.Char at) = value.Char (char_of text at)
  part_in (layer.Str text) (spot.Slice start end) = value.Str (slice_of text start end)
  part_in (layer.Blob bytes) (spot.Byte at) = value.Int (pos (slice_index bytes at))
  part_in _ _ = value.Unit

  -- a part of a value, with that value's access mode
  abbrev pub part_of : Dynamic H → Spot → Dynamic H
  part_of source at = record { value = part_in (layer_of source) at; mode = source.mode }

-- a part that is read into memory of its own
abbrev pub is_slice : Spot → Bool
is_slice (spot.Slice start end) = true
is_slice _ = false
