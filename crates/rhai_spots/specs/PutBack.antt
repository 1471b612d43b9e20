-- Parts of values that are put back.
use Rattle.std.specs.Prelude.{◌≡◌, ℕ, ◌%◌, ℤ, Bool, true, false, if◌then◌else◌, List, slice_set, Option, Some, None, option_map, codes, []}
use Rattle.std.specs.Int.{w64, cast_unsigned}
use Rattle.rhai_spots.specs.Types.{Dynamic, EvalAltResult, Position, Spot, Union}
use Rattle.rhai_errors.specs.Errors.{is_out_of_memory, mismatch}
use Rattle.rhai_values.specs.TypeNames.{own_type_name}
use Rattle.rhai_values.specs.declared.base.value.Union.TheVariants as value
use Rattle.rhai_values.specs.declared.base.value.FnPtrKind.TheOpen as layer
use Rattle.rhai_values.specs.Layers.{UnionLayer, layer_of}
use Rattle.rhai_spots.specs.declared.spot.Spot.TheVariants as spot
use Rattle.rhai_spots.specs.Parts.{is_part}
use Rattle.rhai_spots.specs.Bits.{with_bit, with_field}
use Rattle.rhai_spots.specs.Characters.{with_char, with_slice}

-- the low eight bits of an integer
abbrev pub low_byte : ℤ → ℕ
low_byte n = cast_unsigned w64 n % 256

-- the name of the type that a part has
abbrev pub wanted : Spot → List ℕ
wanted (spot.Bit at) = codes "bool"
wanted (spot.BitField start end) = codes "i64"
wanted (spot.Char at) = codes "char"
wanted (spot.Slice start end) = codes "string"
wanted (spot.Byte at) = codes "i64"
wanted _ = []

-- a part of a text, which is made anew
abbrev pub is_of_text : Spot → Bool
is_of_text (spot.Char at) = true
is_of_text (spot.Slice start end) = true
is_of_text _ = false

module _ {H : Type 0} where
  -- a value with a part put back; none where the part is of another type than the one that was read
  abbrev pub put_in : (source : UnionLayer H) → Spot → (part : UnionLayer H) → Option (Union H)
  put_in (layer.Int n) (spot.Bit at) (layer.Bool on) = Some (value.Int (with_bit n at on))
  put_in (layer.Int n) (spot.BitField start end) (layer.Int v) = Some (value.Int (with_field n start end v))
  put_in (layer.Str text) (spot.Char at) (layer.Char c) = Some (value.Str (with_char text at c))
  put_in (layer.Str text) (spot.Slice start end) (layer.Str new) = Some (value.Str (with_slice text start end new))
  put_in (layer.Blob bytes) (spot.Byte at) (layer.Int v) = Some (value.Blob (slice_set bytes at (low_byte v)))
  put_in _ _ _ = None

  -- a value with a part put back; its access mode stays
  abbrev pub put : (source : Dynamic H) → Spot → (part : UnionLayer H) → Option (Dynamic H)
  put source at part = option_map (λ u. record source { value = u }) (put_in (layer_of source) at part)

  -- a value with a part put back at any spot: one that has no such part stays as it is
  abbrev pub put_back : (source : Dynamic H) → Spot → (part : Dynamic H) → Option (Dynamic H)
  put_back source at part = if is_part (layer_of source) at then put source at (layer_of part) else Some source

  -- why a part was not put back: it is of another type, unless memory ran out
  abbrev pub IsNotPut : (host_name : H → List ℕ) → (source : Dynamic H) → Spot → (part : Dynamic H) → Position → EvalAltResult H → Type 0
  IsNotPut host_name source at part position e =
      is_out_of_memory e ≡ false → (put_back source at part ≡ None) ×
      (e ≡ mismatch (wanted at) (own_type_name host_name part.value) position)
