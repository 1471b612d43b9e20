-- The types that the definitions here speak of, in one file.
pub use Rattle.rhai_spots.specs.declared.spot.Spot.{Spot}
pub use Rattle.rhai_spots.specs.declared.part.Part.{Part}
pub use Rattle.rhai_places.specs.declared.target.Target.{Target}
pub use Rattle.rhai_errors.specs.declared.error.EvalAltResult.{EvalAltResult}
pub use Rattle.rhai_state.specs.declared.limits.Limits.{Limits}
pub use Rattle.rhai_state.specs.declared.state.GlobalRuntimeState.{GlobalRuntimeState}
pub use Rattle.rhai_values.specs.declared.base.value.Dynamic.{Dynamic}
