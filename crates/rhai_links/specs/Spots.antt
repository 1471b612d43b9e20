-- How a link finds a spot, and the spot that an index leads to, once a missing key is inserted.
use Rattle.std.specs.Prelude.{◌≡◌, Bool, false, Result, Ok, Err}
use Rattle.rhai_values.specs.declared.base.value.Dynamic.{Dynamic}
use Rattle.rhai_errors.specs.declared.error.EvalAltResult.{EvalAltResult}
use Rattle.rhai_errors.specs.Errors.{is_out_of_memory}
use Rattle.rhai_spots.specs.declared.spot.Access.{Access}
use Rattle.rhai_spots.specs.declared.spot.Spot.{Spot}
use Rattle.rhai_machine.specs.language.Links.{Link, link_position}

-- how a link finds its spot: whether a missing key is inserted there, and whether it is an error
abbrev pub way_through : Link → (adds fails : Bool) → Access
way_through link adds fails = record {
  idx_pos = link_position link.form;
  op_pos = link.at;
  add_if_not_found = adds;
  fail_on_invalid_map_property = fails;
}

module _ {H : Type 0} where
  -- the spot is there in the value as it is left; at an error, which is the one that is wanted unless memory ran out, it stays
  abbrev pub FindsSpot : Result Spot (EvalAltResult H) → (wanted : Result (Dynamic H × Spot) (EvalAltResult H)) →
      (before after : Dynamic H) →
      Type 0
  FindsSpot (Ok at) wanted before after = wanted ≡ Ok (after, at)
  FindsSpot (Err e) wanted before after = (after ≡ before) × (is_out_of_memory e ≡ false → wanted ≡ Err e)
