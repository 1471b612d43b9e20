-- What scripts, functions of scripts, calls and chains keep.
use Rattle.std.proofs.Common.{◌≡◌, ℕ, Bool, true, false, List, [], ◌∷◌, map, take, drop}
use Rattle.std.specs.Prelude.{Option, Some, None, Result}
use Rattle.std.specs.Borrow.{Bor}
use Rattle.rhai_tree.specs.declared.expr.OpAssignment.{OpAssignment}
use Rattle.rhai_machine.specs.Types.{Dynamic, EvalAltResult, Expr, Stmt}
use Rattle.rhai_errors.specs.Native.{Lawful}
use Rattle.rhai_values.specs.ValueContents.{Reached}
use Rattle.rhai_machine.specs.language.Setting.{Rules}
use Rattle.rhai_machine.specs.language.State.{Local, State}
use Rattle.rhai_machine.specs.language.Activations.{Entered}
use Rattle.rhai_machine.specs.language.Arguments.{function_core}
use Rattle.rhai_machine.specs.language.Frames.{Keyword, Operation, Frame, core, ended, Enter, EnterFunction, Top}
use Rattle.rhai_machine.specs.language.Memory.{UpToMemory}
use Rattle.rhai_machine.specs.language.Script.{end_of_script, start_of_script}
use Rattle.rhai_machine.specs.language.Values.{unit_value}
use Rattle.rhai_fits.specs.Contents.{Contents, Both, Nothing, of_environ, of_new, of_result, of_values}
use Rattle.rhai_laws.specs.Kept.{Around}
use Rattle.rhai_fits.specs.Sealed.{AreSealed, NewSealed}
use Rattle.rhai_fits.proofs.Values.{fit_unit}
use Rattle.rhai_fits.proofs.Fitting.{AllFit, FitBelow, FitCore, to, push, values_dropped, values_joined}
use Rattle.rhai_eval_steps.specs.Bodies.{args_left}
use Rattle.rhai_eval_steps.specs.Calls.{called}
use Rattle.rhai_eval.specs.Chains.{assigned_in, AssignsNoHandle, whole_chain}
use Rattle.rhai_eval.specs.Ends.{EndsAs, EndsFrom}
use Rattle.rhai_fits_eval.specs.InHand.{at_work, FitsAgain, cells_in}
use Rattle.rhai_fits_eval.proofs.Steps.{goes_up_to}
use Rattle.rhai_fits_eval.proofs.Ends.{given_fits, nothing_below, result_fits, fits_again, control_again, from_again}

module _ {H : Type 0} (own : H → List Reached) (P : Reached → Type 0) (least : ℕ) where
  -- a keyword on its arguments, or a call by name
  function_good : (keyword : Option Keyword) (operation : Operation) (args : List Expr) (captures : Bool) (k : List (Frame H))
      (l : Local H) → FitBelow own P least k l → FitCore own P least (function_core keyword operation args captures k l)
  function_good (Some keyword) operation [] captures k l b = to own P least _ k l tt tt b
  function_good (Some keyword) operation (arg ∷ args) captures k l b =
      to own P least _ _ l tt tt (push own P least _ k l tt tt b.back b)
  function_good None operation args captures k l b = to own P least _ k l tt tt b

  -- `()` in each place
  emptied_fits : (vs : List (Dynamic H)) → AllFit own P least (of_values (map (λ v. unit_value) vs))
  emptied_fits [] = tt
  emptied_fits (v ∷ vs) = (fit_unit own P, emptied_fits vs)

  -- what is left of the arguments of a function
  left_fits : (entered : Bool) (count : ℕ) (args : List (Dynamic H)) → AllFit own P least (of_values args) →
      AllFit own P least (of_values (args_left entered count args))
  left_fits true count args h = values_joined own P least (map (λ v. unit_value) (take count args)) (drop count args)
      (emptied_fits (take count args)) (values_dropped own P least count args h)
  left_fits false count args h = h

-- what is assigned is no handle
pub assigned_sealed : {H : Type 0} (given : Option (Dynamic H × Bor OpAssignment)) → AssignsNoHandle given → NewSealed (assigned_in given)
assigned_sealed None h = tt
assigned_sealed (Some given) h = h

module _ {S H : Type 0} (rules : Rules S H) (old new : State S H) (names : H → List ℕ) (lawful : Lawful names rules.natives)
    (s : AreSealed old.local.around.cells) (around : Around old.local.around new.local.around) where
  abbrev Answer : Type 0
  Answer = Result (Dynamic H) (EvalAltResult H)

  -- a whole script
  pub script_again : (statements : List Stmt) (map_exit : Bool) (r : Answer) →
      UpToMemory rules (start_of_script statements map_exit (at_work None old)) (end_of_script r (at_work None new)) →
      FitsAgain rules Nothing old (of_result r) new
  script_again statements map_exit r up = fits_again rules Nothing old new names lawful around None None
      (core (Enter statements false) (Top map_exit ∷ []) (at_work None old).local) (ended r)
      (to _ _ _ _ _ _ tt tt (push _ _ _ (Top map_exit) [] _ tt tt tt (nothing_below rules Nothing old new s None tt)))
      (goes_up_to rules up) (of_result r) (λ control focus. result_fits rules Nothing old new r control)

  -- a call whose arguments are told
  pub called_again : (operation : Operation) (args : List Expr) (captures : Bool) (r : Answer) →
      EndsFrom rules (called operation args captures) (at_work None old) r (at_work None new) →
      FitsAgain rules Nothing old (of_result r) new
  called_again operation args captures r ends = from_again rules Nothing old new names lawful around None None
      (called operation args captures)
      (function_good _ _ _ _ operation args captures [] (at_work None old).local (nothing_below rules Nothing old new s None tt)) r
      (of_result r) ends (λ result focus. result)

  -- a chain, with a value to assign or without
  pub chain_again : (e : Expr) (given : Option (Dynamic H × Bor OpAssignment)) (r : Answer) → AssignsNoHandle given →
      EndsAs rules (whole_chain e (assigned_in given)) (at_work None old) r (at_work None new) →
      FitsAgain rules (of_new (assigned_in given)) old (of_result r) new
  chain_again e given r h ends = control_again rules (of_new (assigned_in given)) old new names lawful around s
      (whole_chain e (assigned_in given)) r (given_fits rules (of_new (assigned_in given)) old new, tt) (assigned_sealed given h) ends

  -- a function of a script, and what is left of its arguments
  module _ (e : Entered H) (r : Answer) (ends : EndsAs rules (EnterFunction e) (at_work None old) r (at_work None new)) where
    abbrev entering : Contents H
    entering = Both (of_values e.args) (of_environ e.environ)

    pub entered_again : FitsAgain rules entering old (of_result r) new
    entered_again = control_again rules entering old new names lawful around s (EnterFunction e) r
        (given_fits rules entering old new) tt ends

    pub arguments_again : (entered : Bool) (count : ℕ) (left : List (Dynamic H)) → left ≡ args_left entered count e.args →
        FitsAgain rules entering old (Both (of_result r) (of_values left)) new
    arguments_again entered count left is =
        let h = given_fits rules entering old new in
        from_again rules entering old new names lawful around None None (λ k l. core (EnterFunction e) k l)
        (to _ _ _ (EnterFunction e) [] _ h tt (nothing_below rules entering old new s None tt)) r (Both (of_result r) (of_values left)) ends
        (λ result focus. (result, rw is (left_fits _ _ (cells_in old) entered count e.args h.0)))
