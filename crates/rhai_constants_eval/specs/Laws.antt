-- Constants stay, told of how calls end: of any `this`, first argument and scope, and without them.
use Rattle.std.specs.Prelude.{ℕ, Bool, true, false, List, Option, Result}
use Rattle.rhai_tree.specs.declared.expr.Expr.{Expr}
use Rattle.rhai_tree.specs.declared.expr.Stmt.{Stmt}
use Rattle.rhai_values.specs.declared.base.value.Dynamic.{Dynamic}
use Rattle.rhai_errors.specs.declared.error.EvalAltResult.{EvalAltResult}
use Rattle.rhai_machine.specs.language.Setting.{Rules}
use Rattle.rhai_machine.specs.language.State.{State}
use Rattle.rhai_machine.specs.language.Calls.{dispatch_core}
use Rattle.rhai_machine.specs.language.Frames.{Control, Operation}
use Rattle.rhai_machine.specs.language.Memory.{UpToMemory}
use Rattle.rhai_machine.specs.language.Script.{end_of_script, start_of_script}
use Rattle.rhai_fits.specs.Sealed.{AreSealed, ControlSealed}
use Rattle.rhai_constants.specs.Constants.{Spares}
use Rattle.rhai_eval_steps.specs.Calls.{called}
use Rattle.rhai_eval.specs.Ends.{EndsAs, EndsChanged, EndsFrom}
use Rattle.rhai_eval.specs.Places.{by_name, by_value, on_place}
use Rattle.rhai_constants_eval.specs.Staying.{script, StaysAs, StaysChanged, StaysFrom}

module _ {S H : Type 0} (rules : Rules S H) where
  -- a part of a tree, or a function of a script: from a control that assigns no handle and is not about to write an entry
  abbrev pub PartsStay : Type 0
  PartsStay = (old new : State S H) (c : Control H) (r : Result (Dynamic H) (EvalAltResult H)) → AreSealed old.local.around.cells →
      ControlSealed c → ((index : ℕ) → Spares index c) → EndsAs rules c old r new → StaysAs rules c old r new

  -- a whole script
  abbrev pub ScriptsStay : Type 0
  ScriptsStay = (old new : State S H) (statements : List Stmt) (map_exit : Bool) (r : Result (Dynamic H) (EvalAltResult H)) →
      AreSealed old.local.around.cells → UpToMemory rules (start_of_script statements map_exit old) (end_of_script r new) →
      StaysFrom rules (script statements map_exit) old r new

  -- a call whose arguments are told
  abbrev pub CallsStay : Type 0
  CallsStay = (old new : State S H) (operation : Operation) (args : List Expr) (captures : Bool)
      (r : Result (Dynamic H) (EvalAltResult H)) → AreSealed old.local.around.cells →
      EndsFrom rules (called operation args captures) old r new → StaysFrom rules (called operation args captures) old r new

  -- a call by name on a first argument that is lent, or on none
  abbrev pub LentCallsStay : Type 0
  LentCallsStay = (old new : State S H) (operation : Operation) (first : Option (Dynamic H)) (rest : List (Dynamic H))
      (r : Result (Dynamic H × Bool) (EvalAltResult H)) (of_method on_scope : Bool) → AreSealed old.local.around.cells →
      EndsChanged rules (dispatch_core rules.setting (by_name of_method on_scope) (on_place operation true first rest)) old r new →
      StaysChanged rules (dispatch_core rules.setting (by_name of_method on_scope) (on_place operation true first rest)) old r new

  -- a call by name on values alone, or on none
  abbrev pub ValueCallsStay : Type 0
  ValueCallsStay = (old new : State S H) (operation : Operation) (first : Option (Dynamic H)) (rest : List (Dynamic H))
      (r : Result (Dynamic H × Bool) (EvalAltResult H)) (on_scope : Bool) → AreSealed old.local.around.cells →
      EndsChanged rules (dispatch_core rules.setting (by_name false on_scope) (by_value operation first rest)) old r new →
      StaysChanged rules (dispatch_core rules.setting (by_name false on_scope) (by_value operation first rest)) old r new
