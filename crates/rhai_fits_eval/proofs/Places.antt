-- What calls keep whose first argument, or what they index, stands in a place of the caller, or is handed in by value.
use Rattle.std.proofs.Common.{◌≡◌, ℕ, zero, suc, Bool, true, false, List, [], ◌∷◌, replicate}
use Rattle.std.specs.Prelude.{Some, None, Result}
use Rattle.rhai_tree.specs.declared.position.Position.{Position}
use Rattle.rhai_machine.specs.Types.{Dynamic, EvalAltResult}
use Rattle.rhai_errors.specs.Native.{Lawful}
use Rattle.rhai_values.specs.ValueContents.{Reached}
use Rattle.rhai_machine.specs.language.Setting.{Rules}
use Rattle.rhai_machine.specs.language.State.{State}
use Rattle.rhai_machine.specs.language.Calls.{dispatch_core}
use Rattle.rhai_machine.specs.language.Frames.{Ask, Operation, core}
use Rattle.rhai_machine.specs.language.Members.{get_core, set_core}
use Rattle.rhai_machine.specs.language.Values.{unit_value}
use Rattle.rhai_fits.specs.Contents.{Contents, Both, OneValue, of_result, of_values}
use Rattle.rhai_laws.specs.Kept.{Around}
use Rattle.rhai_fits.specs.Sealed.{AreSealed}
use Rattle.rhai_fits.proofs.Values.{fit_unit}
use Rattle.rhai_fits.proofs.Fitting.{AllFit, to}
use Rattle.rhai_fits.proofs.Calls.{dispatch_good}
use Rattle.rhai_fits.proofs.Methods.{get_good, set_good}
use Rattle.rhai_eval.specs.Ends.{EndsFrom, EndsChanged}
use Rattle.rhai_eval.specs.Indexing.{item_by}
use Rattle.rhai_eval.specs.Places.{by_name, by_value, on_place}
use Rattle.rhai_fits_eval.specs.InHand.{at_work, FitsAgain, cells_in, of_changed}
use Rattle.rhai_fits_eval.proofs.Ends.{given_fits, offer_fits, nothing_below, from_again, changed_again}

-- `()` in so many places
pub units_fit : {H : Type 0} (own : H → List Reached) (P : Reached → Type 0) (least n : ℕ) →
    AllFit own P least (of_values (replicate n unit_value))
units_fit own P least zero = tt
units_fit own P least (suc n) = (fit_unit own P, units_fit own P least n)

module _ {S H : Type 0} (rules : Rules S H) (old new : State S H) (names : H → List ℕ) (lawful : Lawful names rules.natives)
    (s : AreSealed old.local.around.cells) (around : Around old.local.around new.local.around) where
  -- a call that says whether it changed its first argument, which stood in a place; and the other arguments
  module _ (operation : Operation) (r : Result (Dynamic H × Bool) (EvalAltResult H)) (x y : Dynamic H) (rest : List (Dynamic H))
      (n : ℕ) (left : List (Dynamic H)) where
    abbrev given : Contents H
    given = of_values (x ∷ rest)

    -- a native, which leaves the others
    pub native_again : (guarded : Bool) → left ≡ rest →
        EndsChanged rules (λ k l. core (Ask (on_place operation guarded (Some x) rest)) k l) (at_work (Some x) old) r
        (at_work (Some y) new) → FitsAgain rules given old (Both (of_changed r) (of_values (y ∷ left))) new
    native_again guarded is ends =
        let h = given_fits rules given old new in
        changed_again rules given old new names lawful around (Some x) (Some y)
        (λ k l. core (Ask (on_place operation guarded (Some x) rest)) k l)
        (to _ _ _ (Ask (on_place operation guarded (Some x) rest)) [] _ h tt (nothing_below rules given old new s (Some x) h.0)) r
        (Both (of_changed r) (of_values (y ∷ left))) ends (λ result focus. (result, (focus, rw is h.1)))

    -- a call by name, which uses up the others
    pub lent_again : (of_method on_scope : Bool) → left ≡ replicate n unit_value →
        EndsChanged rules (dispatch_core rules.setting (by_name of_method on_scope) (on_place operation true (Some x) rest))
        (at_work (Some x) old) r (at_work (Some y) new) → FitsAgain rules given old (Both (of_changed r) (of_values (y ∷ left))) new
    lent_again of_method on_scope is ends =
        let h = given_fits rules given old new in
        changed_again rules given old new names lawful around (Some x) (Some y)
        (dispatch_core rules.setting (by_name of_method on_scope) (on_place operation true (Some x) rest))
        (dispatch_good _ _ _ rules.setting (offer_fits rules given old new) (by_name of_method on_scope)
        (on_place operation true (Some x) rest) [] _ h (nothing_below rules given old new s (Some x) h.0)) r
        (Both (of_changed r) (of_values (y ∷ left))) ends (λ result focus. (result, (focus, rw is (units_fit _ _ (cells_in old) n))))

    -- and one whose arguments are all handed in by value
    pub by_value_again : (on_scope : Bool) → y ≡ unit_value → left ≡ replicate n unit_value →
        EndsChanged rules (dispatch_core rules.setting (by_name false on_scope) (by_value operation (Some x) rest)) (at_work None old) r
        (at_work None new) → FitsAgain rules given old (Both (of_changed r) (of_values (y ∷ left))) new
    by_value_again on_scope taken is ends =
        let h = given_fits rules given old new in
        changed_again rules given old new names lawful around None None
        (dispatch_core rules.setting (by_name false on_scope) (by_value operation (Some x) rest))
        (dispatch_good _ _ _ rules.setting (offer_fits rules given old new) (by_name false on_scope)
        (by_value operation (Some x) rest) [] _ h (nothing_below rules given old new s None tt)) r
        (Both (of_changed r) (of_values (y ∷ left))) ends
        (λ result focus. (result, (rw taken (fit_unit _ _), rw is (units_fit _ _ (cells_in old) n))))

  -- ---- indexers

  module _ (pos : Position) (x y index now : Dynamic H) (same : now ≡ index) where
    -- the indexer that reads, which leaves the index
    pub get_again : (r : Result (Dynamic H) (EvalAltResult H)) →
        EndsFrom rules (get_core (item_by index pos true)) (at_work (Some x) old) r (at_work (Some y) new) →
        FitsAgain rules (Both (OneValue x) (OneValue index)) old (Both (of_result r) (Both (OneValue y) (OneValue now))) new
    get_again r ends =
        let given : Contents H = Both (OneValue x) (OneValue index) in
        let h = given_fits rules given old new in
        from_again rules given old new names lawful around (Some x) (Some y) (get_core (item_by index pos true))
        (get_good _ _ _ (item_by index pos true) [] _ h.1 (nothing_below rules given old new s (Some x) h.0)) r
        (Both (of_result r) (Both (OneValue y) (OneValue now))) ends (λ result focus. (result, (focus, rw same h.1)))

    -- the one that writes, which leaves the new value too
    pub set_again : (guarded : Bool) (value after : Dynamic H) → after ≡ value → (r : Result (Dynamic H × Bool) (EvalAltResult H)) →
        EndsChanged rules (set_core false (item_by index pos guarded) value) (at_work (Some x) old) r (at_work (Some y) new) →
        FitsAgain rules (Both (OneValue x) (Both (OneValue index) (OneValue value))) old
        (Both (of_changed r) (Both (OneValue y) (Both (OneValue now) (OneValue after)))) new
    set_again guarded value after stays r ends =
        let given : Contents H = Both (OneValue x) (Both (OneValue index) (OneValue value)) in
        let h = given_fits rules given old new in
        changed_again rules given old new names lawful around (Some x) (Some y) (set_core false (item_by index pos guarded) value)
        (set_good _ _ _ false (item_by index pos guarded) value [] _ h.1.0 h.1.1 (nothing_below rules given old new s (Some x) h.0)) r
        (Both (of_changed r) (Both (OneValue y) (Both (OneValue now) (OneValue after)))) ends
        (λ result focus. (result, (focus, (rw same h.1.0, rw stays h.1.1))))
