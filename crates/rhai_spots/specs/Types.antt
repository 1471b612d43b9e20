-- The types that the definitions here speak of, in one file.
pub use Rattle.rhai_spots.specs.declared.spot.Access.{Access}
pub use Rattle.rhai_spots.specs.declared.spot.Refusal.{Refusal}
pub use Rattle.rhai_spots.specs.declared.spot.Spot.{Spot}
pub use Rattle.rhai_spots.specs.declared.part.Part.{Part}
pub use Rattle.rhai_errors.specs.declared.error.EvalAltResult.{EvalAltResult}
pub use Rattle.rhai_tree.specs.declared.position.Position.{Position}
pub use Rattle.rhai_values.specs.declared.base.value.Dynamic.{Dynamic}
pub use Rattle.rhai_values.specs.declared.base.value.Union.{Union}
