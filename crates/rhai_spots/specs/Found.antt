-- What an index gives: the spot where it leads once a missing key is inserted, or the error.
use Rattle.std.specs.Prelude.{◌≡◌, ℕ, ⊤, Bool, true, false, if◌then◌else◌, ◌||◌, List, [], Option, Some, None, Result, Ok, Err}
use Rattle.rhai_tree.specs.Lookup.{paired, place_of, rank, with_entry}
use Rattle.rhai_values.specs.Cells.{value_of_cell}
use Rattle.rhai_values.specs.Copy.{plain}
use Rattle.rhai_errors.specs.Errors.{is_out_of_memory}
use Rattle.rhai_spots.specs.Types.{Access, Dynamic, EvalAltResult, Part, Refusal, Spot}
use Rattle.rhai_errors.specs.declared.error.EvalAltResult.TheVariants as error
use Rattle.rhai_values.specs.declared.base.value.Union.TheVariants as value
use Rattle.rhai_values.specs.declared.base.value.FnPtrKind.TheOpen as layer
use Rattle.rhai_values.specs.Layers.{UnionLayer, layer_of}
use Rattle.rhai_spots.specs.declared.spot.Spot.TheVariants as spot
use Rattle.rhai_spots.specs.Indexing.{located}
use Rattle.rhai_spots.specs.Refusals.{IsTold, refused}
use Rattle.rhai_spots.specs.Targets.{place_at, with_place, part_at}

module _ {H : Type 0} where
  -- a value by its kind: of a handle the value of its cell, None where that cell is held
  abbrev pub through_layer : List (Option (Dynamic H)) → Dynamic H → UnionLayer H → Option (Dynamic H)
  through_layer cells d (layer.Cell id) = value_of_cell cells id.number
  through_layer cells d _ = Some d

  -- a value, or of a handle the value of its cell; None where that cell is held
  abbrev pub through : List (Option (Dynamic H)) → Dynamic H → Option (Dynamic H)
  through cells d = through_layer cells d (layer_of d)

  -- a map and a key that it does not have
  abbrev pub IsKeyless : (source index : UnionLayer H) → Type 0
  IsKeyless (layer.Map entries) (layer.Str key) = place_of key (paired entries).0 ≡ None
  IsKeyless _ _ = ⊥

  -- a map with `()` under one more key, and the spot of that key
  abbrev pub with_key : Dynamic H → (source index : UnionLayer H) → Dynamic H × Spot
  with_key source (layer.Map entries) (layer.Str key) =
      (record source { value = value.Map (with_entry key (plain value.Unit) (paired entries)) }, spot.Value (rank key (paired entries).0))
  with_key source _ _ = (source, spot.Missing)

  -- an index is a text
  abbrev pub IsText : UnionLayer H → Type 0
  IsText (layer.Str key) = ⊤
  IsText _ = ⊥

  -- a text, which is what a key is
  abbrev pub text_of : UnionLayer H → List ℕ
  text_of (layer.Str key) = key
  text_of _ = []

  module _ (how : Access) where
    -- a key that a map does not have: it is inserted, or an error, or leads to a temporary `()`
    abbrev pub without_key : Dynamic H → Dynamic H → Result (Dynamic H × Spot) (EvalAltResult H)
    without_key source index =
        if how.add_if_not_found then Ok (with_key source (layer_of source) (layer_of index))
        else (if how.fail_on_invalid_map_property then Err (error.ErrorPropertyNotFound (text_of (layer_of index)) how.idx_pos) else Ok
        (source, spot.Missing))

    module _ (host_name : H → List ℕ) (cells : List (Option (Dynamic H))) where
      -- what comes of where an index leads: a missing key as `without_key` says, another spot as it is, a refusal as its error
      abbrev pub spot_or_error : Dynamic H → Dynamic H → Result Spot Refusal → Result (Dynamic H × Spot) (EvalAltResult H)
      spot_or_error source index (Ok spot.Missing) = without_key source index
      spot_or_error source index (Ok at) = Ok (source, at)
      spot_or_error source index (Err refusal) = Err (refused host_name cells how source index refusal)

      -- the spot that an index leads to, in the value once a missing key is inserted, or the error
      abbrev pub indexed : (source index : Dynamic H) → Result (Dynamic H × Spot) (EvalAltResult H)
      indexed source index = spot_or_error source index (located (layer_of source) (layer_of index))

      -- what an index leads to, once it is read through its handle; a cell that is held is a race
      abbrev pub found_by : (source : Dynamic H) → Option (Dynamic H) → Result (Dynamic H × Spot) (EvalAltResult H)
      found_by source (Some index) = indexed source index
      found_by source None = Err (error.ErrorDataRace [] how.idx_pos)

      -- the spot that an index leads to which may be a handle, in the value once a missing key is inserted, or the error
      abbrev pub found : (source index : Dynamic H) → Result (Dynamic H × Spot) (EvalAltResult H)
      found source index = found_by source (through cells index)

  -- ---- what a target and its end say of it

  -- a target is the one of what was found
  abbrev pub IsFound : Result (Dynamic H × Spot) (EvalAltResult H) → (place : Dynamic H) → Part H → Type 0
  IsFound (Ok (source, at)) place part = (place_at source at ≡ Some place) × (part ≡ part_at source at)
  IsFound (Err e) place part = ⊥

  -- an error is the one of what was not found, or memory ran out
  abbrev pub IsMissed : Result (Dynamic H × Spot) (EvalAltResult H) → EvalAltResult H → Type 0
  IsMissed (Ok found) e = is_out_of_memory e ≡ true
  IsMissed (Err told) e = IsTold told e

  -- what the value ends as, where the place of the target ends as it was changed
  abbrev pub EndsBy : Result (Dynamic H × Spot) (EvalAltResult H) → (place source : Dynamic H) → Type 0
  EndsBy (Ok (source, at)) place end = end ≡ with_place source at place
  EndsBy (Err e) place end = ⊥

-- what takes memory: a refusal, a slice, and a missing key that is inserted or refused
abbrev pub spot_takes_memory : Access → Result Spot Refusal → Bool
spot_takes_memory how (Ok spot.Missing) = how.add_if_not_found || how.fail_on_invalid_map_property
spot_takes_memory how (Ok (spot.Slice start end)) = true
spot_takes_memory how (Ok at) = false
spot_takes_memory how (Err refusal) = true

-- whether an index takes memory, once it is read through its handle; the error of a race does
abbrev pub takes_memory : {H : Type 0} → Access → (source : Dynamic H) → Option (Dynamic H) → Bool
takes_memory how source (Some index) = spot_takes_memory how (located (layer_of source) (layer_of index))
takes_memory how source None = true
