-- What an index finds in a value: arrays, blobs, maps, the bits of integers, and the characters of texts.
use Rattle.std.specs.Prelude.{ℕ, suc, ◌+◌, ◌-◌, min, max, ℤ, pos, negsuc, nat_lt, nat_le, ◌==◌, if◌then◌else◌, List, length, Option, Some}
use Rattle.std.specs.Prelude.{None, option_map, Result, Ok, Err, ok_or}
use Rattle.std.specs.Ordering.{int_eq}
use Rattle.std.specs.Str.{chars}
use Rattle.rhai_tree.specs.Lookup.{paired, place_of}
use Rattle.rhai_errors.specs.declared.error.Bounds.{Bounds}
use Rattle.rhai_values.specs.declared.base.value.FnPtrKind.TheOpen as layer
use Rattle.rhai_values.specs.Layers.{UnionLayer}
use Rattle.rhai_spots.specs.Types.{Refusal, Spot}
use Rattle.rhai_spots.specs.declared.spot.Spot.TheVariants as spot
use Rattle.rhai_spots.specs.declared.spot.Refusal.TheVariants as refusal

-- what an error of an index tells: the length, and the index
abbrev pub bounds : ℕ → ℤ → Bounds
bounds length index = record { length = length; index = index }

-- the position of an index in a sequence: from the start, or from the end where it is negative
abbrev pub index_in : (length : ℕ) → ℤ → Option ℕ
index_in length (pos i) = if nat_lt i length then Some i else None
index_in length (negsuc i) = if nat_lt i length then Some (length - suc i) else None

-- ---- bits of an integer

-- a bound of a field of bits
abbrev pub bit_bound : (most : ℕ) → ℤ → Option ℕ
bit_bound most (pos b) = if nat_le b most then Some b else None
bit_bound most (negsuc b) = None

-- the end of a field of bits, where the greatest integer means the top
abbrev pub bit_end : (most : ℕ) → ℤ → Option ℕ
bit_end most b = if int_eq b (pos 9223372036854775807) then Some most else bit_bound most b

-- the field from a start up to an end; the start is tested first
abbrev pub bit_field : (start last : ℤ) → Option ℕ → Option ℕ → Result Spot Refusal
bit_field start last None end = Err (refusal.BitFieldBounds (bounds 64 start))
bit_field start last (Some from) None = Err (refusal.BitFieldBounds (bounds 64 last))
bit_field start last (Some from) (Some end) = Ok (spot.BitField from (max from end))

-- ---- characters of a text

-- where a slice starts: cut at the end of the text; none where it stands before the text, unless that is empty
abbrev pub slice_start : (count : ℕ) → ℤ → Option ℕ
slice_start count (pos i) = Some (min i count)
slice_start count (negsuc i) = if nat_lt i count then Some (count - suc i) else (if count == 0 then Some 0 else None)

-- where a slice ends, its end left out: cut at the end of the text, and at its start
abbrev pub slice_end : (count : ℕ) → ℤ → ℕ
slice_end count (pos i) = min i count
slice_end count (negsuc i) = count - suc i

-- where a slice ends, its end taken in
abbrev pub slice_last : (count : ℕ) → ℤ → ℕ
slice_last count (pos i) = min (i + 1) count
slice_last count (negsuc i) = count - i

-- the slice from a start up to an end
abbrev pub slice_spot : (count : ℕ) → (start : ℤ) → Option ℕ → (end : ℕ) → Result Spot Refusal
slice_spot count start None end = Err (refusal.StringBounds (bounds count start))
slice_spot count start (Some from) end = Ok (spot.Slice from (max from end))

-- ---- each kind of value, with an index

-- the value of a key, by the key's position, or no value
abbrev pub key_spot : Option ℕ → Spot
key_spot (Some at) = spot.Value at
key_spot None = spot.Missing

module _ {H : Type 0} where
  -- an index into an integer: one of its 64 bits, or the bits of a range
  abbrev pub in_integer : UnionLayer H → Result Spot Refusal
  in_integer (layer.Int i) = ok_or (option_map (λ at. spot.Bit at) (index_in 64 i)) (refusal.BitFieldBounds (bounds 64 i))
  in_integer (layer.ExclusiveRange start end) = bit_field start end (bit_bound 63 start) (bit_end 64 end)
  in_integer (layer.InclusiveRange start last) = bit_field start last (bit_bound 63 start) (option_map (λ end. end + 1) (bit_end 63 last))
  in_integer _ = Err refusal.WantsInteger

  -- an index into a text of so many characters: a character, or the characters of a range
  abbrev pub in_text : (count : ℕ) → UnionLayer H → Result Spot Refusal
  in_text count (layer.Int i) = ok_or (option_map (λ at. spot.Char at) (index_in count i)) (refusal.StringBounds (bounds count i))
  in_text count (layer.ExclusiveRange start end) = slice_spot count start (slice_start count start) (slice_end count end)
  in_text count (layer.InclusiveRange start last) = slice_spot count start (slice_start count start) (slice_last count last)
  in_text count _ = Err refusal.WantsInteger

  -- an index into an array of so many items
  abbrev pub in_array : (count : ℕ) → UnionLayer H → Result Spot Refusal
  in_array count (layer.Int i) = ok_or (option_map (λ at. spot.Item at) (index_in count i)) (refusal.ArrayBounds (bounds count i))
  in_array count _ = Err refusal.WantsInteger

  -- an index into a blob of so many bytes
  abbrev pub in_blob : (count : ℕ) → UnionLayer H → Result Spot Refusal
  in_blob count (layer.Int i) = ok_or (option_map (λ at. spot.Byte at) (index_in count i)) (refusal.ArrayBounds (bounds count i))
  in_blob count _ = Err refusal.WantsInteger

  -- an index into a map with these keys, each of which has a value: a text, which may be no key of it
  abbrev pub in_map : (keys : List (List ℕ)) → UnionLayer H → Result Spot Refusal
  in_map keys (layer.Str key) = Ok (key_spot (place_of key keys))
  in_map keys _ = Err refusal.WantsText

  -- where an index leads in a value, or why it leads nowhere
  abbrev pub located : (source index : UnionLayer H) → Result Spot Refusal
  located (layer.Int number) index = in_integer index
  located (layer.Str text) index = in_text (length (chars text)) index
  located (layer.Array items) index = in_array (length items) index
  located (layer.Blob bytes) index = in_blob (length bytes) index
  located (layer.Map entries) index = in_map (paired entries).0 index
  located _ index = Err refusal.NotIndexed
