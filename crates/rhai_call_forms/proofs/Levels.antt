-- Where a call goes on once its arguments are there, the stack and the state stay: so memory may as well run out there.
use Rattle.std.proofs.Common.{◌≡◌, ◌&&◌, ℕ, Bool, true, false, List, [], ◌∷◌, ◌++◌, Option, Some, None, Result, Ok, Err, refl}
use Rattle.std.specs.Prelude.{codes, if◌then◌else◌}
use Rattle.std.specs.Str.{bytes_eq}
use Rattle.rhai_tree.specs.declared.position.Position.{Position}
use Rattle.rhai_values.specs.declared.base.value.Dynamic.{Dynamic}
use Rattle.rhai_errors.specs.declared.error.EvalAltResult.{EvalAltResult}
use Rattle.rhai_errors.specs.declared.error.EvalAltResult.TheVariants as error
use Rattle.rhai_machine.specs.machine.Memory.{here, out_before_step, Leads}
use Rattle.rhai_functions.specs.declared.function.Function.{Function}
use Rattle.rhai_machine.specs.language.Setting.{Setting, Rules, globals_of, cut}
use Rattle.rhai_machine.specs.language.State.{Local, State}
use Rattle.rhai_machine.specs.language.Values.{through}
use Rattle.rhai_machine.specs.language.Names.{bound_this}
use Rattle.rhai_machine.specs.language.Activations.{ThisFrom, NoThis}
use Rattle.rhai_machine.specs.language.Frames.{Dispatch, Call, Purpose, ToCall, ToCallOn, ToCallOnThis, ToCallFunction, ToCallNumber}
use Rattle.rhai_machine.specs.language.Frames.{ToCurry}
use Rattle.rhai_machine.specs.language.Frames.{ToChain, Frame, Core, core, on_value, EnterFunction, Question, Fail}
use Rattle.rhai_machine.specs.language.Calls.{asks_function, by_name_core, call_of, called_function, dispatch_behind, dispatch_core}
use Rattle.rhai_machine.specs.language.Calls.{enter_core, entry_of, found_core, function_behind, named_core, races}
use Rattle.rhai_machine.specs.language.Arguments.{arguments_there, call_on, lent_this, linked_core, numbered_core}
use Rattle.rhai_machine.specs.language.Runs.{at, with_core}
use Rattle.rhai_machine.specs.language.Language.{machine}

-- a core on a stack in a state, whatever its control
pub record IsLevel {H : Type 0} (k : List (Frame H)) (l : Local H) (c : Core H) : Type 0 where
  pub stack : c.stack ≡ k
  pub local : c.local ≡ l

module _ {H : Type 0} (k : List (Frame H)) (l : Local H) where
  -- one of two
  pub either : (b : Bool) (c d : Core H) → IsLevel k l c → IsLevel k l d → IsLevel k l (if b then c else d)
  either true c d one other = one
  either false c d one other = other

  pub on_level : {A : Type 0} (r : Result A (EvalAltResult H)) (go : A → Core H) → ((x : A) → IsLevel k l (go x)) →
      IsLevel k l (on_value r go k l)
  on_level (Ok x) go h = h x
  on_level (Err e) go h = record { stack = refl; local = refl }

  entered_level : (of_method : Bool) (f : Function H) (how : Dispatch) (call : Call H) → IsLevel k l (enter_core of_method f how call k l)
  entered_level true f how call = record { stack = refl; local = refl }
  entered_level false f how call = record { stack = refl; local = refl }

  module _ (s : Setting H) where
    found_level : (found : Option (Function H)) (how : Dispatch) (call : Call H) → IsLevel k l (found_core s found how call k l)
    found_level (Some f) how call = entered_level how.of_method f how call
    found_level None how call = record { stack = refl; local = refl }

    named_level : (how : Dispatch) (args : List (Dynamic H)) (call : Call H) → IsLevel k l (named_core s how args call k l)
    named_level how [] call = found_level (called_function s how call l) how call
    named_level how (v ∷ []) call = either (bytes_eq call.operation.name (codes "type_of")) _ _ (record { stack = refl; local = refl })
        (either (bytes_eq call.operation.name (codes "eval")) _ _ (record { stack = refl; local = refl })
        (found_level (called_function s how call l) how call))
    named_level how (v ∷ w ∷ []) call = either (bytes_eq call.operation.name (codes "is_def_fn")
        && asks_function (through l.around.cells v call.operation.at) (through l.around.cells w call.operation.at)) _ _
        (record { stack = refl; local = refl }) (found_level (called_function s how call l) how call)
    named_level how (v ∷ w ∷ x ∷ args) call = found_level (called_function s how call l) how call

    by_name_level : (how : Dispatch) (call : Call H) → IsLevel k l (by_name_core s how call k l)
    by_name_level how call =
        either (races l.around.cells call.args) _ _ (record { stack = refl; local = refl }) (named_level how call.args call)

    behind_level : (path : List (List ℕ)) (how : Dispatch) (call : Call H) → IsLevel k l (dispatch_behind s path how call k l)
    behind_level [] how call = by_name_level how call
    behind_level (root ∷ path) how call =
        on_level (function_behind s root path how call l) (λ f. enter_core false f how call k l) (λ f. entered_level false f how call)

    pub dispatch_level : (how : Dispatch) (call : Call H) → IsLevel k l (dispatch_core s how call k l)
    dispatch_level how call = behind_level how.path.names how call

    pub number_level : (call : Call H) → IsLevel k l (numbered_core call k l)
    number_level call = either (races l.around.cells call.args)
        (core (Fail (error.ErrorDataRace call.operation.name call.operation.at)) k l) (core (Question call) k l)
        (record { stack = refl; local = refl }) (record { stack = refl; local = refl })

    pub linked_level : (f : Function H) (object : ThisFrom) (pos : Position) (args : List (Dynamic H)) →
        IsLevel k l (linked_core f object pos args k l)
    linked_level f object pos args = either (races l.around.cells args) (core (Fail (error.ErrorDataRace f.def.name pos)) k l)
        (core (EnterFunction (entry_of f object true args pos l)) k l)
        (record { stack = refl; local = refl }) (record { stack = refl; local = refl })

    pub there_level : (purpose : Purpose H) (args : List (Dynamic H)) → IsLevel k l (arguments_there s purpose args k l)
    there_level (ToCall operation curried how) args = dispatch_level how (call_of operation (curried ++ args))
    there_level (ToCallOn operation variable how) args =
        on_level (call_on (globals_of s.offer) l.around l.scope operation variable args) (λ call. dispatch_core s how call k l)
        (λ call. dispatch_level how call)
    there_level (ToCallOnThis operation this_at how) args =
        on_level (bound_this this_at l.this) (λ v. dispatch_core s how (lent_this operation args v) k l)
        (λ v. dispatch_level how (lent_this operation args v))
    there_level (ToCallFunction function pos curried) args = linked_level function NoThis pos (curried ++ args)
    there_level (ToCallNumber number operation curried) args =
        number_level (record (call_of operation (curried ++ args)) { number = Some number })
    there_level (ToCurry pointer) args = record { stack = refl; local = refl }
    there_level (ToChain chain (Some rest)) args = record { stack = refl; local = refl }
    there_level (ToChain chain None) args = record { stack = refl; local = refl }

-- memory may run out at such a core
pub call_runs_out_at : {S H : Type 0} (rules : Rules S H) (k : List (Frame H)) (s : State S H) (c : Core H) → IsLevel k s.local c →
    (pos : Position) → Leads (machine rules) (cut rules) (with_core c s) (at (Fail (error.ErrorOutOfMemory pos)) k s)
call_runs_out_at rules k s c level pos = out_before_step {at = pos} (rw (level.stack, level.local) here)
