-- An assignment at the end of a chain, from where its spot is found.
use Rattle.std.specs.Prelude.{◌≡◌, ℕ, Bool, true, false, List, ◌∷◌, Some, Result, Err}
use Rattle.rhai_tree.specs.declared.expr.Expr.{Expr}
use Rattle.rhai_tree.specs.declared.position.Position.{Position}
use Rattle.rhai_values.specs.declared.base.value.Dynamic.{Dynamic}
use Rattle.rhai_values.specs.Layers.{UnionLayer}
use Rattle.rhai_errors.specs.declared.error.EvalAltResult.{EvalAltResult}
use Rattle.rhai_errors.specs.declared.error.EvalAltResult.TheVariants as error
use Rattle.rhai_state.specs.declared.limits.Limits.{Limits}
use Rattle.rhai_spots.specs.declared.spot.Spot.{Spot}
use Rattle.rhai_spots.specs.declared.spot.Spot.TheVariants as spot
use Rattle.rhai_spots.specs.Parts.{IsThere, value_at}
use Rattle.rhai_spots.specs.PutBack.{put_back, IsNotPut}
use Rattle.rhai_spots.specs.Paths.{ToPlace}
use Rattle.rhai_machine.specs.language.Setting.{Setting, Rules}
use Rattle.rhai_machine.specs.language.State.{Answers, Local, State}
use Rattle.rhai_machine.specs.language.Frames.{NewValue, MemberAccess, Frame, Core, core, StepDown, Measured, MemberGot, MemberOperated}
use Rattle.rhai_machine.specs.language.Frames.{ended_or_changed}
use Rattle.rhai_machine.specs.language.Frames.{Back, Fail}
use Rattle.rhai_machine.specs.language.Calls.{sized}
use Rattle.rhai_machine.specs.language.Chains.{after_set, assign_focus}
use Rattle.rhai_machine.specs.language.Members.{focused_on, set_core}
use Rattle.rhai_machine.specs.language.Runs.{Goes}
use Rattle.rhai_assign.specs.Updates.{finished}
use Rattle.rhai_calls.specs.ToldChanges.{with_changed}

module _ {H : Type 0} where
  -- a spot that is there, and is no key that is missing
  abbrev pub IsKept : UnionLayer H → Spot → Type 0
  IsKept source spot.Missing = ⊥
  IsKept source at = IsThere source at

  -- As `Follows`; but where this was done, as a key that was inserted, memory does not run out before anything was done.
  pub data FollowsUnless {S : Type 0} (done : Type 0) (rules : Rules S H) (start : List (Frame H) → Local H → Core H) (old : State S H)
      (result : Result (Dynamic H × Bool) (EvalAltResult H)) (new : State S H) : Type 0 where
    Does : Goes rules start old (core (ended_or_changed result)) new → FollowsUnless done rules start old result new
    FindsNoMemory : (done → ⊥) → (pos : Position) → result ≡ Err (error.ErrorOutOfMemory pos) → new ≡ old →
        FollowsUnless done rules start old result new

  -- an assignment tells of a change, once what was assigned to is measured
  abbrev pub measured_as : Limits → Dynamic H → Position → Result (Dynamic H × Bool) (EvalAltResult H)
  measured_as limits v at = with_changed true (finished (sized limits v at))

  -- What became of an assigned part: it went into its place, and was measured then; or the place stays, and this is why.
  pub data GoesIn (limits : Limits) (host_name : H → List ℕ) (source : Dynamic H) (at : Spot) (part : Dynamic H) (pos : Position) (left :
      Dynamic H) (result : Result (Dynamic H × Bool) (EvalAltResult H)) : Type 0 where
    WentIn : put_back source at part ≡ Some left → Answers result (measured_as limits part pos) →
        GoesIn limits host_name source at part pos left result
    Stays : (e : EvalAltResult H) → left ≡ source → result ≡ Err e → IsNotPut host_name source at part pos e →
        GoesIn limits host_name source at part pos left result

  module _ (s : Setting H) (root : Expr) (new : NewValue H) where
    -- an item is assigned to, and measured before it goes back
    abbrev pub item_assigned : Spot → (source : Dynamic H) → List (Frame H) → Local H → Core H
    item_assigned at source k l = assign_focus s root new (Measured new.op.position ∷ StepDown source (ToPlace at) ∷ k)
        (focused_on (value_at source at) l)

    -- a property is, and its map is measured
    abbrev pub property_assigned : Spot → (source : Dynamic H) → List (Frame H) → Local H → Core H
    property_assigned at source k l = assign_focus s root new (StepDown source (ToPlace at) ∷ Measured new.op.position ∷ k)
        (focused_on (value_at source at) l)

  -- a member is set at the end of an assignment
  abbrev pub set_last : MemberAccess H → (value : Dynamic H) → List (Frame H) → Local H → Core H
  set_last access v k l = set_core false access v (after_set access.member k) l

  module _ (access : MemberAccess H) (root : Expr) (new : NewValue H) where
    -- the value of a member comes up, and is operated on
    abbrev pub value_got : Dynamic H → List (Frame H) → Local H → Core H
    value_got v k l = core (Back v) (MemberGot access root new ∷ k) l

    -- or there is none
    abbrev pub none_got : EvalAltResult H → List (Frame H) → Local H → Core H
    none_got e k l = core (Fail e) (MemberGot access root new ∷ k) l

  -- a member's value was operated on, and the answer comes up
  abbrev pub value_operated : MemberAccess H → (value : Dynamic H) → Position → (answer : Dynamic H) → List (Frame H) → Local H → Core H
  value_operated access v at answer k l = core (Back answer) (MemberOperated access l.focus at ∷ k) (focused_on (Some v) l)
