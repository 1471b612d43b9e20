-- What calls keep, told of how they end: of any `this`, first argument and scope, and without them.
use Rattle.std.specs.Prelude.{◌≡◌, if◌then◌else◌, ℕ, Bool, true, false, List, Option, None, Result, length, replicate, is_some}
use Rattle.std.specs.Option.{option_map}
use Rattle.rhai_tree.specs.declared.expr.Expr.{Expr}
use Rattle.rhai_tree.specs.declared.expr.Stmt.{Stmt}
use Rattle.rhai_values.specs.declared.base.value.Dynamic.{Dynamic}
use Rattle.rhai_errors.specs.declared.error.EvalAltResult.{EvalAltResult}
use Rattle.rhai_machine.specs.language.Setting.{Rules}
use Rattle.rhai_machine.specs.language.State.{State}
use Rattle.rhai_machine.specs.language.Activations.{Entered}
use Rattle.rhai_machine.specs.language.Calls.{dispatch_core}
use Rattle.rhai_machine.specs.language.Frames.{Ask, Control, EnterFunction, Operation, core}
use Rattle.rhai_machine.specs.language.Memory.{UpToMemory}
use Rattle.rhai_machine.specs.language.Script.{end_of_script, start_of_script}
use Rattle.rhai_machine.specs.language.Values.{unit_value}
use Rattle.rhai_fits.specs.Contents.{Both, Nothing, of_control, of_maybe, of_result, of_values}
use Rattle.rhai_fits.specs.Sealed.{AreSealed, ControlSealed}
use Rattle.rhai_laws.specs.Kept.{Around}
use Rattle.rhai_eval_steps.specs.Bodies.{args_left}
use Rattle.rhai_eval_steps.specs.Calls.{called}
use Rattle.rhai_eval.specs.Ends.{EndsAs, EndsChanged, EndsFrom}
use Rattle.rhai_eval.specs.Places.{by_name, by_value, on_place}
use Rattle.rhai_fits_eval.specs.InHand.{at_work, of_changed, FitsAgain}

-- what is left of the other arguments of a call by name: `()` in the place of each, where there is a first one
abbrev pub used_up : {H : Type 0} → (first : Option (Dynamic H)) → (rest : List (Dynamic H)) → List (Dynamic H)
used_up first rest = if is_some first then replicate (length rest) unit_value else rest

module _ {S H : Type 0} (rules : Rules S H) where
  -- between these states what is around only grew, and no cell had a bare handle
  pub record IsFromSealed (old new : State S H) : Type 0 where
    pub sealed : AreSealed old.local.around.cells
    pub around : Around old.local.around new.local.around

  -- a part of a tree, or a function of a script: from a control that assigns no handle
  abbrev pub PartsFit : Type 0
  PartsFit = (old new : State S H) (c : Control H) (r : Result (Dynamic H) (EvalAltResult H)) → IsFromSealed old new → ControlSealed c →
      EndsAs rules c (at_work None old) r (at_work None new) → FitsAgain rules (of_control c) old (of_result r) new

  -- what is left of the arguments of a function counts as in hand
  abbrev pub ArgumentsFit : Type 0
  ArgumentsFit = (old new : State S H) (e : Entered H) (r : Result (Dynamic H) (EvalAltResult H)) (entered : Bool) (count : ℕ) →
      IsFromSealed old new → EndsAs rules (EnterFunction e) (at_work None old) r (at_work None new) →
      FitsAgain rules (of_control (EnterFunction e)) old (Both (of_result r) (of_values (args_left entered count e.args))) new

  -- a whole script
  abbrev pub ScriptsFit : Type 0
  ScriptsFit = (old new : State S H) (statements : List Stmt) (map_exit : Bool) (r : Result (Dynamic H) (EvalAltResult H)) →
      IsFromSealed old new →
      UpToMemory rules (start_of_script statements map_exit (at_work None old)) (end_of_script r (at_work None new)) →
      FitsAgain rules Nothing old (of_result r) new

  -- a call whose arguments are told
  abbrev pub CallsFit : Type 0
  CallsFit = (old new : State S H) (operation : Operation) (args : List Expr) (captures : Bool)
      (r : Result (Dynamic H) (EvalAltResult H)) → IsFromSealed old new →
      EndsFrom rules (called operation args captures) (at_work None old) r (at_work None new) →
      FitsAgain rules Nothing old (of_result r) new

  module _ (old new : State S H) (operation : Operation) (first left : Option (Dynamic H)) (rest : List (Dynamic H))
      (r : Result (Dynamic H × Bool) (EvalAltResult H)) where
    -- what is given to a call on values, and what is left of them
    abbrev pub ValuesFit : List (Dynamic H) → Type 0
    ValuesFit others = FitsAgain rules (Both (of_maybe first) (of_values rest)) old
        (Both (of_changed r) (Both (of_maybe left) (of_values others))) new

    -- a call of a native leaves the other arguments
    abbrev pub NativeFits : (guarded : Bool) → Type 0
    NativeFits guarded = IsFromSealed old new →
        EndsChanged rules (λ k l. core (Ask (on_place operation guarded first rest)) k l) (at_work first old) r (at_work left new) →
        ValuesFit rest

    -- a call by name on a first argument that is lent, or on none
    abbrev pub LentCallFits : (of_method on_scope : Bool) → Type 0
    LentCallFits of_method on_scope = IsFromSealed old new →
        EndsChanged rules (dispatch_core rules.setting (by_name of_method on_scope) (on_place operation true first rest))
        (at_work first old) r (at_work left new) → ValuesFit (used_up first rest)

    -- a call by name on values alone, or on none
    abbrev pub ValueCallFits : (on_scope : Bool) → Type 0
    ValueCallFits on_scope = IsFromSealed old new → left ≡ option_map (λ v. unit_value) first →
        EndsChanged rules (dispatch_core rules.setting (by_name false on_scope) (by_value operation first rest))
        (at_work None old) r (at_work None new) → ValuesFit (used_up first rest)

  -- calls of natives with a first argument in a place of the caller, or without one
  abbrev pub NativesFit : Type 0
  NativesFit = (old new : State S H) (operation : Operation) (first left : Option (Dynamic H)) (rest : List (Dynamic H))
      (r : Result (Dynamic H × Bool) (EvalAltResult H)) (guarded : Bool) → NativeFits old new operation first left rest r guarded

  -- calls by name with a first argument that is lent, or without one, on a scope or on none
  abbrev pub LentCallsFit : Type 0
  LentCallsFit = (old new : State S H) (operation : Operation) (first left : Option (Dynamic H)) (rest : List (Dynamic H))
      (r : Result (Dynamic H × Bool) (EvalAltResult H)) (of_method on_scope : Bool) →
      LentCallFits old new operation first left rest r of_method on_scope

  -- calls by name with a first argument that is handed in by value, or without one, on a scope or on none
  abbrev pub ValueCallsFit : Type 0
  ValueCallsFit = (old new : State S H) (operation : Operation) (first left : Option (Dynamic H)) (rest : List (Dynamic H))
      (r : Result (Dynamic H × Bool) (EvalAltResult H)) (on_scope : Bool) → ValueCallFits old new operation first left rest r on_scope
