-- A method on a target: on a place, on a temporary, or on a part of the value at a place, which goes back into it.
use Rattle.std.specs.Prelude.{◌≡◌, ℕ, Bool, true, List, ◌∷◌, Some, Result, Ok, Err}
use Rattle.rhai_tree.specs.declared.position.Position.{Position}
use Rattle.rhai_values.specs.declared.base.value.Dynamic.{Dynamic}
use Rattle.rhai_errors.specs.declared.error.EvalAltResult.{EvalAltResult}
use Rattle.rhai_spots.specs.declared.part.Part.{Part}
use Rattle.rhai_spots.specs.declared.part.Part.TheVariants as part
use Rattle.rhai_spots.specs.Targets.{shown, propagated, IsNotPropagated}
use Rattle.rhai_machine.specs.language.Setting.{Setting}
use Rattle.rhai_machine.specs.language.State.{Local}
use Rattle.rhai_machine.specs.language.Frames.{Frame, Core, PartMethod}
use Rattle.rhai_machine.specs.language.Methods.{Method, method_core}

module _ {H : Type 0} where
  -- what waits for a method on a target: a part goes back into its place
  abbrev pub frames_waiting : Part H → (place : Dynamic H) → Position → List (Frame H) → List (Frame H)
  frames_waiting (part.Of at v) place pos k = PartMethod place at pos ∷ k
  frames_waiting _ place pos k = k

  -- what a chain goes on with behind a method on a target: the temporary, and else the place
  abbrev pub value_walked_on : Part H → (place : Dynamic H) → Dynamic H
  value_walked_on part.Whole place = place
  value_walked_on (part.Temporary v) place = v
  value_walked_on (part.Of at v) place = place

  -- a method that is called on what a target shows
  abbrev pub on_target : Setting H → Method → (args : List (Dynamic H)) → Part H → (place : Dynamic H) → List (Frame H) → Local H → Core H
  on_target s method args what place k l = method_core s method args (shown what place) (frames_waiting what place method.at k) l

  -- a target after a method: of the same kind, and the place of a temporary is left alone
  abbrev pub StaysAlike : Part H → (place : Dynamic H) → (after : Part H) → (left : Dynamic H) → Type 0
  StaysAlike part.Whole place after left = after ≡ part.Whole
  StaysAlike (part.Temporary v) place (part.Temporary w) left = left ≡ place
  StaysAlike (part.Of at v) place (part.Of spot w) left = spot ≡ at
  StaysAlike _ place after left = ⊥

  -- what comes of a method's answer: where it tells of a change the part goes back into its place, and where that is refused the place
  -- stays and the refusal is the answer; any other answer changes nothing
  abbrev pub ComesBack : (host_name : H → List ℕ) → Part H → (place : Dynamic H) → Position →
      (answer result : Result (Dynamic H × Bool) (EvalAltResult H)) → (left : Dynamic H) → Type 0
  ComesBack host_name what place pos (Ok (v, true)) (Ok w) left = (w ≡ (v, true)) × (propagated what place ≡ Some left)
  ComesBack host_name what place pos (Ok (v, true)) (Err e) left = (left ≡ place) × IsNotPropagated host_name what place pos e
  ComesBack host_name what place pos answer result left = (result ≡ answer) × (left ≡ place)
