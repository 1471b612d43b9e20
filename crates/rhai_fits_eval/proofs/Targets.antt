-- What a method on a target and an assignment to one keep.
use Rattle.std.proofs.Common.{◌≡◌, ℕ, Bool, List, [], ◌∷◌, replicate}
use Rattle.std.specs.Prelude.{Some, Result}
use Rattle.rhai_tree.specs.declared.position.Position.{Position}
use Rattle.rhai_machine.specs.Types.{Dynamic, EvalAltResult, Expr}
use Rattle.rhai_values.specs.Cells.{IsNoHandle}
use Rattle.rhai_errors.specs.Native.{Lawful}
use Rattle.rhai_values.specs.ValueContents.{Reached}
use Rattle.rhai_spots.specs.declared.part.Part.{Part}
use Rattle.rhai_spots.specs.declared.part.Part.TheVariants as part
use Rattle.rhai_spots.specs.Targets.{shown}
use Rattle.rhai_machine.specs.language.Setting.{Setting, Rules}
use Rattle.rhai_machine.specs.language.State.{Local, State}
use Rattle.rhai_machine.specs.language.Frames.{NewValue, Frame, MemberSet, PartMethod}
use Rattle.rhai_machine.specs.language.Members.{focused_on}
use Rattle.rhai_machine.specs.language.Methods.{Method, method_core}
use Rattle.rhai_machine.specs.language.Values.{unit_value}
use Rattle.rhai_fits.specs.Contents.{Contents, Both, OneValue, of_values}
use Rattle.rhai_laws.specs.Kept.{Around}
use Rattle.rhai_fits.specs.Sealed.{AreSealed}
use Rattle.rhai_fits.proofs.Values.{Fit, fit_unit}
use Rattle.rhai_fits.proofs.Fitting.{FitBelow, FitCore, FitOffer, Flat, push, with_focus}
use Rattle.rhai_fits.proofs.Chains.{assign_focus_good}
use Rattle.rhai_fits.proofs.Methods.{method_good}
use Rattle.rhai_calls.specs.Targets.{on_target, value_walked_on, frames_waiting}
use Rattle.rhai_eval.specs.Assigned.{target_assigned, value_assigned}
use Rattle.rhai_eval.specs.Ends.{EndsAlone, EndsAssigned, EndsChanged}
use Rattle.rhai_fits_eval.specs.InHand.{at_work, FitsAgain, cells_in, of_done, of_changed, of_target}
use Rattle.rhai_fits_eval.proofs.Ends.{given_fits, offer_fits, nothing_below, changed_again, alone_again, assigned_again}
use Rattle.rhai_fits_eval.proofs.Places.{units_fit}

module _ {H : Type 0} (own : H → List Reached) (P : Reached → Type 0) (least : ℕ) where
  abbrev Below : List (Frame H) → Local H → Type 0
  Below k l = FitBelow own P least k l

  -- what waits for a target
  waiting_below : (what : Part H) (place : Dynamic H) (pos : Position) (l : Local H) → Fit own P (value_walked_on what place) → Below [] l →
      Below (frames_waiting what place pos []) l
  waiting_below part.Whole place pos l h b = b
  waiting_below (part.Temporary v) place pos l h b = b
  waiting_below (part.Of at v) place pos l h b = push own P least (PartMethod place at pos) [] l h tt tt b

  module _ (s : Setting H) (o : FitOffer own P least s.offer) (root : Expr) (new : NewValue H) (flat : Flat own P least new.value) where
    value_good : (k : List (Frame H)) (l : Local H) → Below k l → FitCore own P least (value_assigned s root new k l)
    value_good k l b =
        assign_focus_good own P least s o root new (MemberSet unit_value ∷ k) l flat
        (push own P least (MemberSet unit_value) k l (fit_unit own P) tt b.back b)

    target_good : (what : Part H) (place : Dynamic H) (l : Local H) → Fit own P (value_walked_on what place) →
        Fit own P (shown what place) →
        Below [] l → FitCore own P least (target_assigned s root new what place [] l)
    target_good part.Whole place l h g b = value_good [] l b
    target_good (part.Temporary v) place l h g b = value_good [] l b
    target_good (part.Of at v) place l h g b =
        let local = with_focus own P least l (Some v) b.local g in
        let over : Below [] (focused_on (Some v) l) = record { stack = tt; sealed = tt; back = tt; local = local } in
        value_good (PartMethod place at new.op.position ∷ []) (focused_on (Some v) l)
        (push own P least (PartMethod place at new.op.position) [] (focused_on (Some v) l) h tt tt over)

module _ {S H : Type 0} (rules : Rules S H) (old new : State S H) (names : H → List ℕ) (lawful : Lawful names rules.natives)
    (s : AreSealed old.local.around.cells) (around : Around old.local.around new.local.around)
    (what : Part H) (place left : Dynamic H) where
  -- ---- methods

  module _ (method : Method) (args : List (Dynamic H)) where
    abbrev with_args : Contents H
    with_args = Both (of_values args) (of_target what place)

    -- the target goes on as this, and the arguments are used up
    pub method_again : (r : Result (Dynamic H × Bool) (EvalAltResult H)) (n : ℕ) (used : List (Dynamic H)) →
        used ≡ replicate n unit_value →
        EndsChanged rules (on_target rules.setting method args what place) (at_work (Some (shown what place)) old) r
        (at_work (Some left) new) →
        FitsAgain rules with_args old (Both (of_changed r) (Both (of_values used) (OneValue left))) new
    method_again r n used is ends =
        let h = given_fits rules with_args old new in
        changed_again rules with_args old new names lawful around (Some (shown what place)) (Some left)
        (on_target rules.setting method args what place)
        (method_good _ _ _ rules.setting (offer_fits rules with_args old new) method args (shown what place) _ _ h.0 h.1.1
        (waiting_below _ _ _ what place method.at _ h.1.0 (nothing_below rules with_args old new s (Some (shown what place)) h.1.1))) r
        (Both (of_changed r) (Both (of_values used) (OneValue left))) ends
        (λ result focus. (result, (rw is (units_fit _ _ (cells_in old) n), focus)))

    -- and shows this
    pub method_shows : EndsAlone rules (method_core rules.setting method args (shown what place)) (at_work (Some (shown what place)) old)
        (at_work (Some left) new) → FitsAgain rules with_args old (OneValue left) new
    method_shows ends =
        let h = given_fits rules with_args old new in
        alone_again rules with_args old new names lawful around (Some (shown what place)) (Some left)
        (method_core rules.setting method args (shown what place))
        (method_good _ _ _ rules.setting (offer_fits rules with_args old new) method args (shown what place) [] _ h.0 h.1.1
        (nothing_below rules with_args old new s (Some (shown what place)) h.1.1)) ends

  -- ---- assignments

  module _ (root : Expr) (value : NewValue H) (flat : IsNoHandle value.value.value) where
    abbrev with_value : Contents H
    with_value = Both (OneValue value.value) (of_target what place)

    pub assignment_again : (r : Result (Unit {0}) (EvalAltResult H)) →
        EndsAssigned rules (target_assigned rules.setting root value what place) (at_work (Some (value_walked_on what place)) old) r
        (at_work (Some left) new) → FitsAgain rules with_value old (Both (of_done r) (OneValue left)) new
    assignment_again r ends =
        let h = given_fits rules with_value old new in
        assigned_again rules with_value old new names lawful around (Some (value_walked_on what place)) (Some left)
        (target_assigned rules.setting root value what place)
        (target_good _ _ _ rules.setting (offer_fits rules with_value old new) root value (h.0, flat) what place _ h.1.0 h.1.1
        (nothing_below rules with_value old new s (Some (value_walked_on what place)) h.1.0)) s h.1.0 r
        (Both (of_done r) (OneValue left)) ends (λ result focus. (result, focus))

    pub assignment_shows : EndsAlone rules (value_assigned rules.setting root value) (at_work (Some (shown what place)) old)
        (at_work (Some left) new) → FitsAgain rules with_value old (OneValue left) new
    assignment_shows ends =
        let h = given_fits rules with_value old new in
        alone_again rules with_value old new names lawful around (Some (shown what place)) (Some left)
        (value_assigned rules.setting root value)
        (value_good _ _ _ rules.setting (offer_fits rules with_value old new) root value (h.0, flat) [] _
        (nothing_below rules with_value old new s (Some (shown what place)) h.1.1)) ends
