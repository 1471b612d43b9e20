-- A method that a walk calls on a part of a value.
use Rattle.std.proofs.Common.{Bool, List, ◌∷◌, Some, Result}
use Rattle.rhai_values.specs.declared.base.value.Dynamic.{Dynamic}
use Rattle.rhai_errors.specs.declared.error.EvalAltResult.{EvalAltResult}
use Rattle.rhai_spots.specs.declared.spot.Spot.{Spot}
use Rattle.rhai_spots.specs.declared.part.Part.TheVariants as part
use Rattle.rhai_machine.specs.language.Setting.{Rules}
use Rattle.rhai_machine.specs.language.State.{State}
use Rattle.rhai_machine.specs.language.Frames.{PartMethod, core, ended_or_changed}
use Rattle.rhai_machine.specs.language.Members.{focused_on}
use Rattle.rhai_machine.specs.language.Methods.{Method, method_core}
use Rattle.rhai_machine.specs.language.Runs.{Goes}
use Rattle.rhai_calls.specs.Targets.{ComesBack}
use Rattle.rhai_calls.proofs.TargetLemmas.{part_goes}
use Rattle.rhai_links.proofs.OnTemporaries.{working}

module _ {S H : Type 0} (rules : Rules S H) where
  -- a method on a part, over what takes the part back
  pub part_called : (method : Method) (args : List (Dynamic H)) (there : Spot) (source v w left : Dynamic H) (old new : State S H)
      (answer r : Result (Dynamic H × Bool) (EvalAltResult H)) →
      Goes rules (method_core rules.setting method args v) (working (Some v) old) (core (ended_or_changed answer)) (working (Some w) new) →
      ComesBack rules.setting.host_type (part.Of there w) source method.at answer r left →
      Goes rules (λ k l. method_core rules.setting method args v (PartMethod source there method.at ∷ k) (focused_on (Some v) l)) old
      (core (ended_or_changed r)) (working (Some left) new)
  unfolding Goes
  part_called method args there source v w left old new answer r runs comes =
      part_goes rules method args there source v w left old new answer r runs comes
