-- Calls whose arguments are there: where they lead.
use Rattle.std.proofs.Common.{◌≡◌, ℕ, Bool, true, false, not, List, [], ◌∷◌, ◌++◌, Option, Some, Result, Ok, Err, refl, sym, subst, ◌∙◌}
use Rattle.std.specs.Prelude.{if◌then◌else◌}
use Rattle.rhai_tree.specs.declared.position.Position.{Position}
use Rattle.rhai_values.specs.declared.base.value.Dynamic.{Dynamic}
use Rattle.rhai_errors.specs.declared.error.EvalAltResult.{EvalAltResult}
use Rattle.rhai_errors.specs.declared.error.EvalAltResult.TheVariants as error
use Rattle.rhai_errors.specs.Errors.{is_out_of_memory}
use Rattle.rhai_functions.specs.declared.function.Function.{Function}
use Rattle.rhai_machine.specs.machine.Memory.{◌⨾◌, here, out_before_step, Leads}
use Rattle.rhai_machine.specs.language.Setting.{Rules, globals_of, cut}
use Rattle.rhai_machine.specs.language.State.{Local, State}
use Rattle.rhai_machine.specs.language.Variables.{Variable}
use Rattle.rhai_machine.specs.language.Activations.{NoThis}
use Rattle.rhai_machine.specs.language.Frames.{Operation, Lender, Dispatch, Call, Purpose, ToCall, ToCallOn, ToCallFunction, ToCallNumber}
use Rattle.rhai_machine.specs.language.Frames.{Frame, core, on_value, ended, EnterFunction, Question, Fail}
use Rattle.rhai_machine.specs.language.Calls.{args_given, call_of, dispatch_core, entry_of, plainly, races}
use Rattle.rhai_machine.specs.language.Arguments.{arguments_there, call_on, numbered_core}
use Rattle.rhai_machine.specs.language.Language.{without_memory, machine}
use Rattle.rhai_machine.specs.language.Runs.{at, with_core, Runs, Goes}
use Rattle.rhai_steps.proofs.Pieces.{faulted}
use Rattle.rhai_calls.proofs.OnVariable.{asked}
use Rattle.rhai_calls.specs.declared.dispatch.Called.TheVariants.{Ended, Enters}
use Rattle.rhai_calls.specs.Called.{came_out, Outcome}
use Rattle.rhai_calls.specs.Dispatch.{came_to}
use Rattle.rhai_steps.specs.Lending.{lent_call}
use Rattle.rhai_callees.specs.Linked.{linked_call, Comes}
use Rattle.rhai_call_forms.proofs.Levels.{there_level, call_runs_out_at}

module _ {S H : Type 0} (rules : Rules S H) where
  -- memory runs out once the arguments are there
  pub there_runs_out : (purpose : Purpose H) (args : List (Dynamic H)) (s : State S H) (e : EvalAltResult H) → is_out_of_memory e ≡ true →
      Goes rules (arguments_there rules.setting purpose args) s (core (ended (Err e))) s
  unfolding Goes
  there_runs_out purpose args s (error.ErrorOutOfMemory pos) is_out k =
      call_runs_out_at rules k s (arguments_there rules.setting purpose args k s.local) (there_level k s.local rules.setting purpose args)
      pos
  there_runs_out purpose args s e is_out k = cc

  pub there_runs_out_fresh : (purpose : Purpose H) (args : List (Dynamic H)) (is_fresh : Bool) (pos : Position) (s : State S H)
      (e : EvalAltResult H) → is_out_of_memory e ≡ true →
      Goes rules (arguments_there rules.setting purpose args) s (came_out is_fresh pos (Ended (Err e))) s
  unfolding Goes
  there_runs_out_fresh purpose args is_fresh pos s e is_out k = there_runs_out purpose args s e is_out k

  -- ---- what came of a call, unless memory ran out

  module _ (is_fresh : Bool) (pos : Position) (k : List (Frame H)) (s : State S H) where
    runs_out_came : (called : Outcome H) (where_ : Position) →
        without_memory where_ (came_out is_fresh pos called k s.local) ≡ core (Fail (error.ErrorOutOfMemory where_)) k s.local
    runs_out_came (Ended r) where_ = refl
    runs_out_came (Enters (f, args)) where_ = refl

    pub came_told : (called wanted : Outcome H) → Comes called wanted →
        Leads (machine rules) (cut rules) (with_core (came_out is_fresh pos wanted k s.local) s)
        (with_core (came_out is_fresh pos called k s.local) s)
    came_told (Ended (Ok v)) wanted comes = rw (← comes tt) here
    came_told (Ended (Err (error.ErrorOutOfMemory there))) wanted comes =
        out_before_step {at = there} (rw (runs_out_came wanted there) here)
    came_told (Ended (Err e)) wanted comes = rw (← comes refl) here
    came_told (Enters (f, args)) wanted comes = rw (← comes tt) here

  -- a function that a pointer is linked to
  linked_is : (f : Function H) (all : List (Dynamic H)) (pos : Position) (k : List (Frame H)) (l : Local H) (b : Bool) →
      (if b then core (Fail (error.ErrorDataRace f.def.name pos)) k l
      else core (EnterFunction (entry_of f NoThis true all pos l)) k l)
      ≡ came_out true pos (if b then Ended (Err (error.ErrorDataRace f.def.name pos)) else Enters (f, all)) k l
  linked_is f all pos k l true = refl
  linked_is f all pos k l false = refl

  pub linked_goes : (f : Function H) (pos : Position) (curried args : List (Dynamic H)) (s : State S H) (called : Outcome H) →
      Comes called (linked_call s.local.around.cells f (curried ++ args) pos) →
      Goes rules (arguments_there rules.setting (ToCallFunction f pos curried) args) s (came_out true pos called) s
  unfolding Goes
  linked_goes f pos curried args s called comes k =
      rw (linked_is f (curried ++ args) pos k s.local (races s.local.around.cells (curried ++ args)))
      (came_told true pos k s called (linked_call s.local.around.cells f (curried ++ args) pos) comes)

  -- a function of a script gets the first argument before the others
  pub calls_given : (alone on_scope guarded : Bool) (operation : Operation) (lender : Option Lender) (v : Dynamic H)
      (args : List (Dynamic H)) (f : Function H) (old new : State S H) (called : Outcome H) →
      Goes rules (dispatch_core rules.setting (plainly alone on_scope) (lent_call operation lender guarded (v ∷ args))) old
      (came_to (plainly alone on_scope) (lent_call operation lender guarded (v ∷ args)) (Enters f)) new →
      Comes called (Enters (f, args_given lender (v ∷ args))) →
      Goes rules (dispatch_core rules.setting (plainly alone on_scope) (lent_call operation lender guarded (v ∷ args))) old
      (came_out (not on_scope) (lent_call operation lender guarded (v ∷ args)).operation.at called) new
  unfolding Goes
  calls_given alone on_scope guarded operation lender v args f old new called runs comes k =
      runs k ⨾ came_told (not on_scope) operation.at k new called (Enters (f, args_given lender (v ∷ args))) comes

  -- ---- a call by name

  module _ (operation : Operation) (curried args all : List (Dynamic H)) (is : all ≡ curried ++ args) (old new : State S H) where
    -- behind what a pointer has already
    pub calls_joined : (how : Dispatch) (called : Outcome H) →
        Goes rules (dispatch_core rules.setting how (call_of operation all)) old
        (came_out (not how.on_scope) (call_of operation all).operation.at called) new →
        Goes rules (arguments_there rules.setting (ToCall operation curried how) args) old (came_out (not how.on_scope) operation.at called)
        new
    unfolding Goes
    calls_joined how called goes k =
        subst (λ (xs : List (Dynamic H)).
        Leads (machine rules) (cut rules) (with_core (dispatch_core rules.setting how (call_of operation xs) k old.local) old)
        (with_core (came_out (not how.on_scope) operation.at called k new.local) new)) is (goes k)

    pub number_joined : (r : Result (Dynamic H) (EvalAltResult H)) (number : ℕ) →
        Goes rules (arguments_there rules.setting (ToCallNumber number operation []) all) old (core (ended r)) new →
        Goes rules (arguments_there rules.setting (ToCallNumber number operation curried) args) old (core (ended r)) new
    unfolding Goes
    number_joined r number goes k =
        subst (λ (xs : List (Dynamic H)).
        Leads (machine rules) (cut rules)
        (with_core (numbered_core (record (call_of operation xs) { number = Some number }) k old.local) old)
        (at (ended r) k new)) is (goes k)

  module _ (operation : Operation) (args all : List (Dynamic H)) (is : args ≡ all) (old new : State S H)
      (r : Result (Dynamic H) (EvalAltResult H)) where
    -- a native's number is asked about
    pub number_asks : (number : ℕ) (found : Bool) → found ≡ races old.local.around.cells args → found ≡ false →
        Runs rules (Question (record (call_of operation all) { number = Some number })) old r new →
        Goes rules (arguments_there rules.setting (ToCallNumber number operation []) args) old (core (ended r)) new
    unfolding Goes
    number_asks number found races_is free runs k =
        subst (λ (b : Bool). Leads (machine rules) (cut rules)
        (with_core (if b then core (Fail (error.ErrorDataRace operation.name operation.at)) k old.local
        else core (Question (record (call_of operation args) { number = Some number })) k old.local) old) (at (ended r) k new)) (sym
        free ∙ races_is)
        (subst (λ (xs : List (Dynamic H)).
        Leads (machine rules) (cut rules) (at (Question (record (call_of operation xs) { number = Some number })) k old)
        (at (ended r) k new)) (sym is) (runs k))

  -- unless an argument's cell is held
  pub number_races : (operation : Operation) (number : ℕ) (args : List (Dynamic H)) (s : State S H) (e : EvalAltResult H) (found : Bool) →
      found ≡ races s.local.around.cells args → found ≡ true → (is_out_of_memory e ≡ false →
      e ≡ error.ErrorDataRace operation.name operation.at) →
      Goes rules (arguments_there rules.setting (ToCallNumber number operation []) args) s (core (ended (Err e))) s
  unfolding Goes
  number_races operation number args s e found races_is is held k =
      subst (λ (b : Bool). Leads (machine rules) (cut rules)
      (with_core (if b then core (Fail (error.ErrorDataRace operation.name operation.at)) k s.local
      else core (Question (record (call_of operation args) { number = Some number })) k s.local) s) (at (Fail e) k s)) (sym is ∙ races_is)
      (faulted rules e (error.ErrorDataRace operation.name operation.at) held k s)

  -- ---- a variable that comes first

  module _ (operation : Operation) (variable : Variable) (how : Dispatch) (args : List (Dynamic H)) (old : State S H) where
    -- or why there is none
    pub on_refused : (x e : EvalAltResult H) → asked rules operation variable how args old ≡ Err x →
        (is_out_of_memory e ≡ false → e ≡ x) → (is_fresh : Bool) (pos : Position) →
        Goes rules (arguments_there rules.setting (ToCallOn operation variable how) args) old (came_out is_fresh pos (Ended (Err e))) old
    unfolding Goes
    on_refused x e is told is_fresh pos k =
        subst (λ (y : Result (Call H) (EvalAltResult H)).
        Leads (machine rules) (cut rules)
        (with_core (on_value y (λ (c : Call H). dispatch_core rules.setting how c k old.local) k old.local) old)
        (at (Fail e) k old))
        (sym is) (faulted rules e x told k old)

    -- or memory runs out there
    pub on_failed : (e : EvalAltResult H) → (is_out_of_memory e ≡ false → asked rules operation variable how args old ≡ Err e) →
        (is_fresh : Bool) (pos : Position) →
        Goes rules (arguments_there rules.setting (ToCallOn operation variable how) args) old (came_out is_fresh pos (Ended (Err e))) old
    on_failed (error.ErrorOutOfMemory there) is is_fresh pos =
        there_runs_out_fresh (ToCallOn operation variable how) args is_fresh pos old (error.ErrorOutOfMemory there) refl
    on_failed e is is_fresh pos = on_refused e e (is refl) (λ m. refl) is_fresh pos
