-- Constants stay at a call by name whose first argument stands in a place of the caller, or is handed in by value, or that has none.
use Rattle.std.proofs.Common.{inl, Bool, true, false, List, []}
use Rattle.std.specs.Prelude.{Option, Some, None, Result}
use Rattle.rhai_machine.specs.Types.{Dynamic, EvalAltResult}
use Rattle.rhai_errors.specs.Native.{Lawful}
use Rattle.rhai_machine.specs.language.Setting.{Rules}
use Rattle.rhai_machine.specs.language.State.{State}
use Rattle.rhai_machine.specs.language.Calls.{dispatch_core}
use Rattle.rhai_machine.specs.language.Frames.{Operation, Call, Dispatch, ended_or_changed}
use Rattle.rhai_fits.specs.Contents.{Contents, Both, of_maybe, of_values}
use Rattle.rhai_fits.specs.Sealed.{AreSealed, Sealed}
use Rattle.rhai_fits.proofs.Calls.{dispatch_good}
use Rattle.rhai_constants.proofs.Calls.{dispatch_keeps}
use Rattle.rhai_constants.proofs.Runs.{told}
use Rattle.rhai_eval.specs.Ends.{EndsChanged}
use Rattle.rhai_eval.specs.Places.{by_name, by_value, on_place}
use Rattle.rhai_fits_eval.proofs.Ends.{given_fits, offer_fits, nothing_below, sealed_core}
use Rattle.rhai_constants_eval.specs.Staying.{StaysChanged}
use Rattle.rhai_constants_eval.specs.Laws.{LentCallsStay, ValueCallsStay}
use Rattle.rhai_constants_eval.proofs.Staying.{stays_by}

module _ {S H : Type 0} (rules : Rules S H) (lawful : Lawful rules.setting.host_type rules.natives) (old new : State S H)
    (s : AreSealed old.local.around.cells) where
  -- a call by name assigns nothing, whatever it is given
  dispatch_sealed : (how : Dispatch) (call : Call H) → Sealed (dispatch_core rules.setting how call [] old.local)
  dispatch_sealed how call =
      let given : Contents H = Both (of_values call.args) (of_maybe old.local.focus) in
      let h = given_fits rules given old new in
      sealed_core _ _ _ (dispatch_core rules.setting how call [] old.local)
      (dispatch_good _ _ _ rules.setting (offer_fits rules given old new) how call [] old.local h.0
      (nothing_below rules given old new s old.local.focus h.1))

  module _ (operation : Operation) (rest : List (Dynamic H)) (r : Result (Dynamic H × Bool) (EvalAltResult H)) where
    -- a call that writes no entry of the scope
    abbrev Stays : Dispatch → Call H → Type 0
    Stays how call =
        EndsChanged rules (dispatch_core rules.setting how call) old r new →
        StaysChanged rules (dispatch_core rules.setting how call) old r new

    -- on a value in a place, or without arguments
    pub lent_stays : (how : Dispatch) (first : Option (Dynamic H)) → Stays how (on_place operation true first rest)
    lent_stays how (Some v) ends =
        let call : Call H = on_place operation true (Some v) rest in
        stays_by rules lawful old new (dispatch_core rules.setting how call) (ended_or_changed r) (dispatch_sealed how call)
        (λ index w constant. dispatch_keeps (told rules lawful index w constant old.table) rules.setting how call [] old.local
        (tt, inl tt)) (ends.up_to [])
    lent_stays how None ends =
        let call : Call H = on_place operation true None rest in
        stays_by rules lawful old new (dispatch_core rules.setting how call) (ended_or_changed r) (dispatch_sealed how call)
        (λ index w constant. dispatch_keeps (told rules lawful index w constant old.table) rules.setting how call [] old.local
        (tt, inl tt)) (ends.up_to [])

    -- on values alone, or without arguments
    pub by_value_stays : (how : Dispatch) (first : Option (Dynamic H)) → Stays how (by_value operation first rest)
    by_value_stays how (Some v) ends =
        let call : Call H = by_value operation (Some v) rest in
        stays_by rules lawful old new (dispatch_core rules.setting how call) (ended_or_changed r) (dispatch_sealed how call)
        (λ index w constant. dispatch_keeps (told rules lawful index w constant old.table) rules.setting how call [] old.local
        (tt, inl tt)) (ends.up_to [])
    by_value_stays how None ends =
        let call : Call H = by_value operation None rest in
        stays_by rules lawful old new (dispatch_core rules.setting how call) (ended_or_changed r) (dispatch_sealed how call)
        (λ index w constant. dispatch_keeps (told rules lawful index w constant old.table) rules.setting how call [] old.local
        (tt, inl tt)) (ends.up_to [])

-- ---- the laws of calls by name

module _ {S H : Type 0} (rules : Rules S H) (lawful : Lawful rules.setting.host_type rules.natives) where
  pub lent_calls_stay : LentCallsStay rules
  lent_calls_stay old new operation first rest r of_method on_scope s ends =
      lent_stays rules lawful old new s operation rest r (by_name of_method on_scope) first ends

  pub value_calls_stay : ValueCallsStay rules
  value_calls_stay old new operation first rest r on_scope s ends =
      by_value_stays rules lawful old new s operation rest r (by_name false on_scope) first ends
