-- What calls keep, by how they end, with a `this`, a first argument and a scope or without.
use Rattle.std.proofs.Common.{◌≡◌, ℕ, Bool, true, false, List, [], ◌∷◌, length, refl, subst, sym}
use Rattle.std.specs.Prelude.{Option, Some, None, Result}
use Rattle.std.specs.Option.{option_map}
use Rattle.rhai_machine.specs.Types.{Dynamic, EvalAltResult}
use Rattle.rhai_errors.specs.Native.{Lawful}
use Rattle.rhai_machine.specs.language.Setting.{Rules}
use Rattle.rhai_machine.specs.language.State.{State}
use Rattle.rhai_machine.specs.language.Calls.{dispatch_core}
use Rattle.rhai_machine.specs.language.Frames.{Ask, Operation, core}
use Rattle.rhai_machine.specs.language.Values.{unit_value}
use Rattle.rhai_fits.specs.Contents.{Contents, Both, of_control, of_maybe, of_values}
use Rattle.rhai_fits.proofs.Values.{fit_unit}
use Rattle.rhai_fits.proofs.Fitting.{AllFit, to}
use Rattle.rhai_fits.proofs.Calls.{dispatch_good}
use Rattle.rhai_eval.specs.Ends.{EndsChanged}
use Rattle.rhai_eval.specs.Places.{by_name, by_value, on_place}
use Rattle.rhai_fits_eval.specs.InHand.{at_work, cells_in, of_changed}
use Rattle.rhai_fits_eval.specs.Laws.{IsFromSealed, PartsFit, ArgumentsFit, ScriptsFit, CallsFit, NativeFits, LentCallFits, ValueCallFits}
use Rattle.rhai_fits_eval.specs.Laws.{NativesFit, LentCallsFit, ValueCallsFit, used_up}
use Rattle.rhai_fits_eval.proofs.Ends.{Stays, given_fits, offer_fits, nothing_below, changed_again, control_again}
use Rattle.rhai_fits_eval.proofs.Places.{units_fit}
use Rattle.rhai_fits_eval.proofs.Starts.{arguments_again, called_again, script_again}

module _ {S H : Type 0} (rules : Rules S H) (names : H → List ℕ) (lawful : Lawful names rules.natives) where
  pub parts_fit : PartsFit rules
  parts_fit old new c r from z ends = control_again rules (of_control c) old new names lawful from.around from.sealed c r
      (given_fits rules (of_control c) old new) z ends

  pub arguments_fit : ArgumentsFit rules
  arguments_fit old new e r entered count from ends =
      arguments_again rules old new names lawful from.sealed from.around e r ends entered count _ refl

  pub scripts_fit : ScriptsFit rules
  scripts_fit old new statements map_exit r from up =
      script_again rules old new names lawful from.sealed from.around statements map_exit r up

  pub calls_fit : CallsFit rules
  calls_fit old new operation args captures r from ends =
      called_again rules old new names lawful from.sealed from.around operation args captures r ends

  module _ (old new : State S H) (operation : Operation) (rest : List (Dynamic H)) (r : Result (Dynamic H × Bool) (EvalAltResult H)) where
    abbrev given : Option (Dynamic H) → Contents H
    given first = Both (of_maybe first) (of_values rest)

    abbrev fit : (first : Option (Dynamic H)) → Contents H → Type 0
    fit first x = AllFit rules.natives.holds.of_host (Stays rules (given first) old new) (cells_in old) x

    first_fits : (first : Option (Dynamic H)) → fit first (given first)
    first_fits first = given_fits rules (given first) old new

    native_fits : (first left : Option (Dynamic H)) (guarded : Bool) → NativeFits rules old new operation first left rest r guarded
    native_fits None left guarded from ends = changed_again rules (given None) old new names lawful from.around None left
        (λ k l. core (Ask (on_place operation guarded None rest)) k l)
        (to _ _ _ (Ask (on_place operation guarded None rest)) [] _ tt tt (nothing_below rules (given None) old new from.sealed None tt))
        r (Both (of_changed r) (Both (of_maybe left) (of_values rest))) ends
        (λ result focus. (result, (focus, (first_fits None).1)))
    native_fits (Some x) left guarded from ends =
        let h = first_fits (Some x) in
        changed_again rules (given (Some x)) old new names lawful from.around (Some x) left
        (λ k l. core (Ask (on_place operation guarded (Some x) rest)) k l)
        (to _ _ _ (Ask (on_place operation guarded (Some x) rest)) [] _ h tt
        (nothing_below rules (given (Some x)) old new from.sealed (Some x) h.0))
        r (Both (of_changed r) (Both (of_maybe left) (of_values rest))) ends (λ result focus. (result, (focus, h.1)))

    lent_fits : (first left : Option (Dynamic H)) (of_method on_scope : Bool) →
        LentCallFits rules old new operation first left rest r of_method on_scope
    lent_fits None left of_method on_scope from ends = changed_again rules (given None) old new names lawful from.around None left
        (dispatch_core rules.setting (by_name of_method on_scope) (on_place operation true None rest))
        (dispatch_good _ _ _ rules.setting (offer_fits rules (given None) old new) (by_name of_method on_scope)
        (on_place operation true None rest) [] _ tt (nothing_below rules (given None) old new from.sealed None tt))
        r (Both (of_changed r) (Both (of_maybe left) (of_values rest))) ends
        (λ result focus. (result, (focus, (first_fits None).1)))
    lent_fits (Some x) left of_method on_scope from ends =
        let h = first_fits (Some x) in
        changed_again rules (given (Some x)) old new names lawful from.around (Some x) left
        (dispatch_core rules.setting (by_name of_method on_scope) (on_place operation true (Some x) rest))
        (dispatch_good _ _ _ rules.setting (offer_fits rules (given (Some x)) old new) (by_name of_method on_scope)
        (on_place operation true (Some x) rest) [] _ h (nothing_below rules (given (Some x)) old new from.sealed (Some x) h.0))
        r (Both (of_changed r) (Both (of_maybe left) (of_values (used_up (Some x) rest)))) ends
        (λ result focus. (result, (focus, units_fit _ _ (cells_in old) (length rest))))

    value_fits : (first left : Option (Dynamic H)) (on_scope : Bool) → ValueCallFits rules old new operation first left rest r on_scope
    value_fits None left on_scope from taken ends = changed_again rules (given None) old new names lawful from.around None None
        (dispatch_core rules.setting (by_name false on_scope) (by_value operation None rest))
        (dispatch_good _ _ _ rules.setting (offer_fits rules (given None) old new) (by_name false on_scope)
        (by_value operation None rest) [] _ tt (nothing_below rules (given None) old new from.sealed None tt))
        r (Both (of_changed r) (Both (of_maybe left) (of_values rest))) ends
        (λ result focus. (result, (subst (λ place. fit None (of_maybe place)) (sym taken) tt, (first_fits None).1)))
    value_fits (Some x) left on_scope from taken ends =
        let h = first_fits (Some x) in
        changed_again rules (given (Some x)) old new names lawful from.around None None
        (dispatch_core rules.setting (by_name false on_scope) (by_value operation (Some x) rest))
        (dispatch_good _ _ _ rules.setting (offer_fits rules (given (Some x)) old new) (by_name false on_scope)
        (by_value operation (Some x) rest) [] _ h (nothing_below rules (given (Some x)) old new from.sealed None tt))
        r (Both (of_changed r) (Both (of_maybe left) (of_values (used_up (Some x) rest)))) ends
        (λ result focus. (
          result,
          (
            subst (λ place. fit (Some x) (of_maybe place)) (sym taken) (fit_unit _ _),
            units_fit _ _ (cells_in old) (length rest),
          ),
        ))

  pub natives_fit : NativesFit rules
  natives_fit old new operation first left rest r guarded = native_fits old new operation rest r first left guarded

  pub lent_calls_fit : LentCallsFit rules
  lent_calls_fit old new operation first left rest r of_method on_scope = lent_fits old new operation rest r first left of_method on_scope

  pub value_calls_fit : ValueCallsFit rules
  value_calls_fit old new operation first left rest r on_scope = value_fits old new operation rest r first left on_scope
