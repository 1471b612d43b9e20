-- What a target shows, and what it puts back into its place.
use Rattle.std.specs.Prelude.{ℕ, ⊤, Bool, true, false, List, Option, Some}
use Rattle.rhai_spots.specs.Types.{Dynamic, EvalAltResult, Part, Position, Spot}
use Rattle.rhai_values.specs.Copy.{copy_of, plain}
use Rattle.rhai_values.specs.declared.base.value.Union.TheVariants as value
use Rattle.rhai_values.specs.declared.base.value.FnPtrKind.TheOpen as layer
use Rattle.rhai_values.specs.Layers.{UnionLayer, layer_of}
use Rattle.rhai_spots.specs.declared.spot.Spot.TheVariants as spot
use Rattle.rhai_spots.specs.declared.part.Part.TheVariants as part
use Rattle.rhai_spots.specs.Parts.{IsPart, value_at, with_value, part_of}
use Rattle.rhai_spots.specs.PutBack.{put_back, is_of_text, IsNotPut}

module _ {H : Type 0} where
  -- ---- the target of a spot

  -- the value that is lent for a spot: an item, or an entry of a map, else the whole value
  abbrev pub place_at : Dynamic H → Spot → Option (Dynamic H)
  place_at source (spot.Item at) = value_at source (spot.Item at)
  place_at source (spot.Value at) = value_at source (spot.Value at)
  place_at source _ = Some source

  -- a value, once what was lent of it for a spot was changed
  abbrev pub with_place : Dynamic H → Spot → Dynamic H → Dynamic H
  with_place source (spot.Item at) v = with_value source (spot.Item at) v
  with_place source (spot.Value at) v = with_value source (spot.Value at) v
  with_place source _ v = v

  -- what is shown of the place: all of it, a temporary `()`, or the part that is read
  abbrev pub part_at : Dynamic H → Spot → Part H
  part_at source (spot.Item at) = part.Whole
  part_at source (spot.Value at) = part.Whole
  part_at source spot.Missing = part.Temporary (plain value.Unit)
  part_at source at = part.Of at (part_of source at)

  -- ---- what a target shows

  -- the value that a target shows: its place, or the temporary or the part beside it
  abbrev pub shown : Part H → (place : Dynamic H) → Dynamic H
  shown part.Whole place = place
  shown (part.Temporary v) place = v
  shown (part.Of at v) place = v

  -- a temporary or a part has become another value
  abbrev pub with_shown : Part H → Dynamic H → Part H
  with_shown part.Whole v = part.Whole
  with_shown (part.Temporary w) v = part.Temporary v
  with_shown (part.Of at w) v = part.Of at v

  -- what is taken of it: a copy of a place, anything else as it is
  abbrev pub taken_value : Part H → (place : Dynamic H) → Dynamic H
  taken_value part.Whole place = copy_of place
  taken_value (part.Temporary v) place = v
  taken_value (part.Of at v) place = v

  -- whether a target shows its place itself
  abbrev pub is_place : Part H → Bool
  is_place part.Whole = true
  is_place _ = false

  -- whether a target shows a temporary
  abbrev pub is_temporary : Part H → Bool
  is_temporary (part.Temporary v) = true
  is_temporary _ = false

  -- whether a value is a handle of a cell
  abbrev pub is_handle : UnionLayer H → Bool
  is_handle (layer.Cell id) = true
  is_handle _ = false

  -- whether a target is a handle of a cell; a part never is
  abbrev pub is_shared : Part H → (place : Dynamic H) → Bool
  is_shared part.Whole place = is_handle (layer_of place)
  is_shared (part.Temporary v) place = is_handle (layer_of v)
  is_shared (part.Of at v) place = false

  -- ---- put-back

  -- a part is one of the value at the place
  abbrev pub IsFit : Part H → (place : Dynamic H) → Type 0
  IsFit (part.Of at v) place = IsPart (layer_of place) at
  IsFit _ place = ⊤

  -- the place once a changed part is put back; none where the part is of another type than the one that was read
  abbrev pub propagated : Part H → (place : Dynamic H) → Option (Dynamic H)
  propagated (part.Of at v) place = put_back place at v
  propagated _ place = Some place

  -- whether a part is one of a text, which takes memory to be put back
  abbrev pub is_of_a_text : Part H → Bool
  is_of_a_text (part.Of at v) = is_of_text at
  is_of_a_text _ = false

  -- why nothing was put back
  abbrev pub IsNotPropagated : (host_name : H → List ℕ) → Part H → (place : Dynamic H) → Position → EvalAltResult H → Type 0
  IsNotPropagated host_name (part.Of at v) place position e = IsNotPut host_name place at v position e
  IsNotPropagated host_name _ place position e = ⊥
