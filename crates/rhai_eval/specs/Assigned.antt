-- An assignment to what a target shows: a place, a temporary, or a part, which goes back into its place.
use Rattle.std.specs.Prelude.{Bool, true, List, ◌∷◌, Some, Result, Ok, Err}
use Rattle.rhai_tree.specs.declared.expr.Expr.{Expr}
use Rattle.rhai_values.specs.declared.base.value.Dynamic.{Dynamic}
use Rattle.rhai_errors.specs.declared.error.EvalAltResult.{EvalAltResult}
use Rattle.rhai_spots.specs.declared.part.Part.{Part}
use Rattle.rhai_spots.specs.declared.part.Part.TheVariants as part
use Rattle.rhai_machine.specs.language.Setting.{Setting}
use Rattle.rhai_machine.specs.language.State.{Local}
use Rattle.rhai_machine.specs.language.Values.{unit_value}
use Rattle.rhai_machine.specs.language.Frames.{NewValue, Frame, Core, MemberSet, PartMethod}
use Rattle.rhai_machine.specs.language.Chains.{assign_focus}
use Rattle.rhai_machine.specs.language.Members.{focused_on}

module _ {H : Type 0} where
  -- what an assignment comes to, without the value that it answers
  abbrev pub without_value : Result (Dynamic H) (EvalAltResult H) → Result (Unit {0}) (EvalAltResult H)
  without_value (Ok v) = Ok tt
  without_value (Err e) = Err e

  -- and as the machine has it: `()` comes back as `Changed`
  abbrev pub assigned : Result (Unit {0}) (EvalAltResult H) → Result (Dynamic H × Bool) (EvalAltResult H)
  assigned (Ok done) = Ok (unit_value, true)
  assigned (Err e) = Err e

  module _ (s : Setting H) (root : Expr) (new : NewValue H) where
    -- the focus is assigned to, and `()` comes back as `Changed`; it is not measured then
    abbrev pub value_assigned : List (Frame H) → Local H → Core H
    value_assigned k l = assign_focus s root new (MemberSet unit_value ∷ k) l

    -- So is what a target shows: the place or the temporary is the focus. A part is one for so long, and goes back into its place once
    -- `Changed` comes up; after an error the place is as it was.
    abbrev pub target_assigned : Part H → (place : Dynamic H) → List (Frame H) → Local H → Core H
    target_assigned (part.Of at v) place k l = value_assigned (PartMethod place at new.op.position ∷ k) (focused_on (Some v) l)
    target_assigned _ place k l = value_assigned k l
