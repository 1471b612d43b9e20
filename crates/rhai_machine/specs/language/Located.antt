-- What a link finds in the focus: the place or the part that an index or a key leads to.
use Rattle.std.specs.Prelude.{Bool, true, false, not, ◌&&◌, List, [], ◌∷◌, drop, length, Result, is_some}
use Rattle.std.specs.Option.{unwrap_or}
use Rattle.rhai_machine.specs.Types.{Dynamic, EvalAltResult, Union}
use Rattle.rhai_tree.specs.Lookup.{paired, place_of}
use Rattle.rhai_values.specs.declared.base.value.Union.TheVariants as value
use Rattle.rhai_values.specs.declared.base.value.FnPtrKind.TheOpen as union
use Rattle.rhai_values.specs.Copy.{plain}
use Rattle.rhai_values.specs.Layers.{UnionLayer, layer_of}
use Rattle.rhai_spots.specs.declared.spot.Access.{Access}
use Rattle.rhai_spots.specs.declared.spot.Spot.{Spot}
use Rattle.rhai_spots.specs.declared.spot.Spot.TheVariants as spot
use Rattle.rhai_spots.specs.Found.{found}
use Rattle.rhai_spots.specs.Targets.{part_at, place_at, taken_value as taken_of}
use Rattle.rhai_machine.specs.language.Setting.{Setting}
use Rattle.rhai_machine.specs.language.Values.{Cells, unit_value}
use Rattle.rhai_machine.specs.language.Places.{is_constant}
use Rattle.rhai_machine.specs.language.Links.{Link, LinkForm, AtProperty, asked_by, link_position}

-- whether a spot is a place, which a value can be written to
abbrev pub is_place_spot : Spot → Bool
is_place_spot (spot.Item i) = true
is_place_spot (spot.Value i) = true
is_place_spot _ = false

module _ {H : Type 0} where
  -- whether a value is `()`
  abbrev pub is_unit : Union H → Bool
  is_unit value.Unit = true
  is_unit _ = false

  -- whether a value is a map
  abbrev pub is_map : UnionLayer H → Bool
  is_map (union.Map entries) = true
  is_map _ = false

  -- whether a value has places or parts of its own; of any other a native is asked
  abbrev pub is_indexed : UnionLayer H → Bool
  is_indexed (union.Int n) = true
  is_indexed (union.Str text) = true
  is_indexed (union.Array items) = true
  is_indexed (union.Blob bytes) = true
  is_indexed (union.Map entries) = true
  is_indexed _ = false

  -- the index of a link: its argument, and of a property its name
  abbrev pub index_by : LinkForm → List (Dynamic H) → Dynamic H
  index_by (AtProperty name at) args = plain (value.Str name)
  index_by form (index ∷ args) = index
  index_by form [] = unit_value

  -- the arguments that are left behind a link
  abbrev pub args_behind : LinkForm → List (Dynamic H) → List (Dynamic H)
  args_behind form args = drop (length (asked_by form)) args

  -- whether an index is a key that a map does not have
  abbrev pub lacks_key : (map index : UnionLayer H) → Bool
  lacks_key (union.Map entries) (union.Str key) = not (is_some (place_of key (paired entries).0))
  lacks_key _ _ = false

  -- whether the focus is a map that is a constant and does not have this key
  abbrev pub bars_key : (source index : Dynamic H) → Bool
  bars_key source index = is_constant source.mode && lacks_key (layer_of source) (layer_of index)

  -- the value that is read at a spot: of a place a copy, for a missing key `()`, or the part
  abbrev pub taken_at : Dynamic H → Spot → Dynamic H
  taken_at source at = taken_of (part_at source at) (unwrap_or (place_at source at) unit_value)

  module _ (s : Setting H) where
    -- how a link looks for its index: at which positions it is refused, and what comes of a missing key
    abbrev pub access_by : (adds : Bool) → Link → Access
    access_by adds link = record {
      idx_pos = link_position link.form;
      op_pos = link.at;
      add_if_not_found = adds;
      fail_on_invalid_map_property = s.offer.fail_on_invalid_map_property;
    }

    -- the spot that an index leads to in the focus, once a missing key is inserted, or why it leads nowhere
    abbrev pub spot_of : (adds : Bool) → Link → Cells H → (source index : Dynamic H) → Result (Dynamic H × Spot) (EvalAltResult H)
    spot_of adds link cells source index = found (access_by adds link) s.host_type cells source index
