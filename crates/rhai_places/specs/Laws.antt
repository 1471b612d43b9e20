-- Laws of places: what is written is read, and what stands elsewhere stays.
use Rattle.std.specs.Prelude.{◌≡◌, Some}
use Rattle.rhai_values.specs.Layers.{layer_of}
use Rattle.rhai_values.specs.declared.base.value.Dynamic.{Dynamic}
use Rattle.rhai_spots.specs.declared.spot.Spot.{Spot}
use Rattle.rhai_spots.specs.Parts.{IsPlace, value_at, with_value}

module _ (H : Type 0) where
  -- what is written at a place is read there, and what stands at another place stays
  pub record PlaceLaws : Type 0 where
    pub written : (source v : Dynamic H) (at : Spot) → IsPlace (layer_of source) at → value_at (with_value source at v) at ≡ Some v
    pub stays : (source v : Dynamic H) (at other : Spot) → IsPlace (layer_of source) at → (at ≡ other → ⊥) →
        value_at (with_value source at v) other ≡ value_at source other
