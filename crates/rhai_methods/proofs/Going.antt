-- The parts of a method's call: where they lead.
use Rattle.std.proofs.Common.{◌≡◌, Bool, true, false, List, ◌∷◌, Some, Result, Ok, Err, refl, sym, ap, subst}
use Rattle.std.specs.Prelude.{ℕ, codes, if◌then◌else◌}
use Rattle.rhai_values.specs.declared.base.value.Dynamic.{Dynamic}
use Rattle.rhai_errors.specs.declared.error.EvalAltResult.{EvalAltResult}
use Rattle.rhai_errors.specs.declared.error.EvalAltResult.TheVariants as error
use Rattle.rhai_errors.specs.Errors.{is_out_of_memory}
use Rattle.rhai_tree.specs.declared.position.Position.{Position}
use Rattle.rhai_functions.specs.declared.function.Function.{Function}
use Rattle.rhai_machine.specs.machine.Memory.{here, ◌⨾◌, Leads}
use Rattle.rhai_machine.specs.language.Setting.{Rules, cut}
use Rattle.rhai_machine.specs.language.State.{Answers, Local, State}
use Rattle.rhai_machine.specs.language.Activations.{ThisFrom}
use Rattle.rhai_machine.specs.language.Frames.{Operation, Dispatch, Call, EnterFunction, Frame, Core, core, ended, ended_or_changed}
use Rattle.rhai_machine.specs.language.Frames.{Question, Fail}
use Rattle.rhai_machine.specs.language.Calls.{call_of, dispatch_core, entry_of, plainly, races}
use Rattle.rhai_machine.specs.language.Arguments.{linked_core, natives_alone, operation_named}
use Rattle.rhai_machine.specs.language.Methods.{as_method, number_on_focus, numbered_on, on_focus}
use Rattle.rhai_machine.specs.language.Runs.{at, with_core, Runs, Steps, Goes}
use Rattle.rhai_machine.specs.language.Language.{machine}
use Rattle.rhai_steps.proofs.Pieces.{faulted, told}
use Rattle.rhai_calls.specs.declared.dispatch.Called.TheVariants.{Ended, Enters}
use Rattle.rhai_calls.specs.Dispatch.{came_to}
use Rattle.rhai_calls.specs.ToldChanges.{with_changed}
use Rattle.rhai_call_forms.proofs.Levels.{IsLevel, call_runs_out_at, linked_level}
use Rattle.rhai_methods.specs.Calls.{named_alone, named_on, number_alone}
use Rattle.rhai_methods.specs.Methods.{came_from, IsEntered, MethodCall}
use Rattle.rhai_methods.specs.Parts.{IsKeptOut, IsLinked}
use Rattle.rhai_methods.specs.declared.calls.MethodEntry.{MethodEntry}
use Rattle.rhai_methods.specs.declared.calls.MethodEntry.TheVariants.{OnTarget, Alone}
use Rattle.rhai_methods.proofs.Levels.{came_level}

-- what changed nothing ends as it would by itself
pub unchanged_call_ends : {H : Type 0} (r : Result (Dynamic H) (EvalAltResult H)) → ended_or_changed (with_changed false r) ≡ ended r
unchanged_call_ends (Ok v) = refl
unchanged_call_ends (Err e) = refl

module _ {S H : Type 0} (rules : Rules S H) (pos : Position) where
  -- a beginning that is the same leads to the same
  pub begins_alike : (start other : List (Frame H) → Local H → Core H) (s new : State S H) (call : MethodCall H) →
      ((k : List (Frame H)) → other k s.local ≡ start k s.local) → Goes rules start s (came_from pos call) new →
      Goes rules other s (came_from pos call) new
  unfolding Goes
  begins_alike start other s new call same runs k =
      subst (λ (c : Core H). Leads (machine rules) (cut rules) (with_core c s) (with_core (came_from pos call k new.local) new))
      (sym (same k)) (runs k)

  -- memory runs out at such a core
  core_runs_out : (k : List (Frame H)) (s : State S H) (c : Core H) (e : EvalAltResult H) → IsLevel k s.local c →
      is_out_of_memory e ≡ true →
      Leads (machine rules) (cut rules) (with_core c s) (at (Fail e) k s)
  core_runs_out k s c (error.ErrorOutOfMemory p) level is = call_runs_out_at rules k s c level p
  core_runs_out k s c e level is = cc

  -- and so where it begins
  pub runs_out_from : (start : List (Frame H) → Local H → Core H) (s : State S H) (e : EvalAltResult H) →
      ((k : List (Frame H)) → IsLevel k s.local (start k s.local)) → is_out_of_memory e ≡ true →
      Goes rules start s (came_from pos (Ended (Err e))) s
  unfolding Goes
  runs_out_from start s e level is k = core_runs_out k s (start k s.local) e (level k) is

  -- it fails with an error that is told
  pub fails_from : (start : List (Frame H) → Local H → Core H) (s : State S H) (e x : EvalAltResult H) →
      ((k : List (Frame H)) → start k s.local ≡ core (Fail x) k s.local) → (is_out_of_memory e ≡ false → e ≡ x) →
      Goes rules start s (came_from pos (Ended (Err e))) s
  unfolding Goes
  fails_from start s e x same is k = rw (same k) (faulted rules e x is k s)

  -- it fails, or memory runs out there
  pub errs_from : (start : List (Frame H) → Local H → Core H) (s : State S H) (e : EvalAltResult H) →
      ((k : List (Frame H)) → IsLevel k s.local (start k s.local)) →
      (is_out_of_memory e ≡ false → (k : List (Frame H)) → start k s.local ≡ core (Fail e) k s.local) →
      Goes rules start s (came_from pos (Ended (Err e))) s
  errs_from start s (error.ErrorOutOfMemory p) level same = runs_out_from start s (error.ErrorOutOfMemory p) level refl
  errs_from start s e level same = fails_from start s e e (same refl) (λ m. refl)

  -- it ends with an answer, which changed nothing
  pub ends_from : (start : List (Frame H) → Local H → Core H) (s : State S H) (wanted r : Result (Dynamic H) (EvalAltResult H))
      (q : Result (Dynamic H × Bool) (EvalAltResult H)) →
      ((k : List (Frame H)) → start k s.local ≡ core (ended wanted) k s.local) → Answers r wanted → q ≡ with_changed false r →
      Goes rules start s (came_from pos (Ended q)) s
  unfolding Goes
  ends_from start s wanted r q same answers is k = rw (same k, is, unchanged_call_ends r) (told rules r wanted answers k s)

  -- a function is entered there, or memory runs out before
  pub entered_from : (start : List (Frame H) → Local H → Core H) (s new : State S H) (wanted : MethodEntry H) (call : MethodCall H) →
      IsEntered call wanted → Goes rules start s (came_from pos (Enters wanted)) new → Goes rules start s (came_from pos call) new
  unfolding Goes
  entered_from start s new wanted (Ended (Err e)) is runs k =
      runs k ⨾ core_runs_out k new (came_from pos (Enters wanted) k new.local) e (came_level k new.local pos (Enters wanted)) is
  entered_from start s new wanted call is runs k =
      subst (λ (x : MethodCall H).
      Leads (machine rules) (cut rules) (with_core (start k s.local) s) (with_core (came_from pos x k new.local) new)) (sym is)
      (runs k)

  -- ---- a call by name

  -- it ends
  pub dispatched_ends : (how : Dispatch) (call : Call H) (s new : State S H) (r : Result (Dynamic H × Bool) (EvalAltResult H)) →
      Goes rules (dispatch_core rules.setting how call) s (came_to how call (Ended r)) new →
      Goes rules (dispatch_core rules.setting how call) s (came_from pos (Ended r)) new
  unfolding Goes
  dispatched_ends how call s new r runs k = runs k

  module _ (name : List ℕ) (args : List (Dynamic H)) (s new : State S H) (f : Function H) (call : MethodCall H) where
    -- or it is of a function of a script, which is entered on the focus
    found_on : (alone : Bool) (focus : Dynamic H) →
        Goes rules (dispatch_core rules.setting (as_method alone) (on_focus (operation_named name pos) args focus)) s
        (came_to (as_method alone) (on_focus (operation_named name pos) args focus) (Enters f)) new →
        Goes rules (named_on rules.setting alone name pos args focus) s (came_from pos (Enters (OnTarget f args))) new
    unfolding Goes
    found_on alone focus runs k = runs k

    pub named_enters_on : (alone : Bool) (focus : Dynamic H) →
        Goes rules (dispatch_core rules.setting (as_method alone) (on_focus (operation_named name pos) args focus)) s
        (came_to (as_method alone) (on_focus (operation_named name pos) args focus) (Enters f)) new →
        IsEntered call (OnTarget f args) → Goes rules (named_on rules.setting alone name pos args focus) s (came_from pos call) new
    named_enters_on alone focus runs is = entered_from (named_on rules.setting alone name pos args focus) s new (OnTarget f args) call is
        (found_on alone focus runs)

    -- or by itself
    abbrev call_telling : Call H
    call_telling = record (call_of (operation_named name pos) args) { marks = true }

    found_alone : Goes rules (dispatch_core rules.setting (plainly (natives_alone name) false) call_telling) s
        (came_to (plainly (natives_alone name) false) call_telling (Enters f)) new →
        Goes rules (named_alone rules.setting name pos args) s (came_from pos (Enters (Alone f args))) new
    unfolding Goes
    found_alone runs k = runs k

    pub named_enters_alone : Goes rules (dispatch_core rules.setting (plainly (natives_alone name) false) call_telling) s
        (came_to (plainly (natives_alone name) false) call_telling (Enters f)) new →
        IsEntered call (Alone f args) → Goes rules (named_alone rules.setting name pos args) s (came_from pos call) new
    named_enters_alone runs is = entered_from (named_alone rules.setting name pos args) s new (Alone f args) call is (found_alone runs)

  -- ---- a function that a pointer is linked to

  module _ (f : Function H) (object : ThisFrom) (args : List (Dynamic H)) (wanted : MethodEntry H)
      (enters : (k : List (Frame H)) (l : Local H) → came_from pos (Enters wanted) k l
      ≡ core (EnterFunction (entry_of f object true args pos l)) k l) (s : State S H) where
    abbrev held_race : EvalAltResult H
    held_race = error.ErrorDataRace f.def.name pos

    abbrev unless_held : Bool → List (Frame H) → Core H
    unless_held held k =
        if held then core (Fail held_race) k s.local else core (EnterFunction (entry_of f object true args pos s.local)) k s.local

    linked_enters : races s.local.around.cells args ≡ false →
        Goes rules (linked_core f object pos args) s (came_from pos (Enters wanted)) s
    unfolding Goes
    linked_enters free k =
        subst (λ (c : Core H). Leads (machine rules) (cut rules) (with_core (linked_core f object pos args k s.local) s) (with_core c s))
        (sym (enters k s.local))
        (subst (λ (held : Bool). Leads (machine rules) (cut rules) (with_core (unless_held held k) s) (with_core (unless_held false k) s))
        (sym free) here)

    linked_errs : (e : EvalAltResult H) → IsKeptOut s.local.around.cells f args pos e →
        Goes rules (linked_core f object pos args) s (came_from pos (Ended (Err e))) s
    linked_errs e is = errs_from (linked_core f object pos args) s e (λ k. linked_level k s.local rules.setting f object pos args)
        (λ m k. subst (λ (x : EvalAltResult H). unless_held (races s.local.around.cells args) k ≡ core (Fail x) k s.local)
        (sym (is m).1) (ap (λ (held : Bool). unless_held held k) (is m).0))

    -- it is entered, unless an argument is the handle of a cell that is held
    pub linked_goes : (call : MethodCall H) → IsLinked s.local.around.cells f args pos wanted call →
        Goes rules (linked_core f object pos args) s (came_from pos call) s
    linked_goes (Ended (Err e)) is = linked_errs e is
    linked_goes call is =
        subst (λ (x : MethodCall H). Goes rules (linked_core f object pos args) s (came_from pos x) s) (sym is.1) (linked_enters is.0)

  -- ---- a native by its number

  module _ (number : ℕ) (operation : Operation) (args : List (Dynamic H)) where
    -- it is asked about on the focus
    pub number_asks_on : (focus : Dynamic H) (s new : State S H) (r : Result (Dynamic H × Bool) (EvalAltResult H)) →
        races s.local.around.cells (focus ∷ args) ≡ false → Steps rules (Question
        (number_on_focus number operation args focus)) s (ended_or_changed r) new →
        Goes rules (numbered_on number operation args focus) s (came_from pos (Ended r)) new
    unfolding Goes
    number_asks_on focus s new r free runs k =
        subst (λ (b : Bool). Leads (machine rules) (cut rules)
        (with_core (if b then core (Fail (error.ErrorDataRace operation.name operation.at)) k s.local
        else core (Question (number_on_focus number operation args focus)) k s.local) s) (at (ended_or_changed r) k new)) (sym free)
        (runs k)

    -- unless an argument's cell is held
    pub number_races_on : (focus : Dynamic H) (s : State S H) (e : EvalAltResult H) →
        races s.local.around.cells (focus ∷ args) ≡ true →
        (is_out_of_memory e ≡ false → e ≡ error.ErrorDataRace operation.name operation.at) →
        Goes rules (numbered_on number operation args focus) s (came_from pos (Ended (Err e))) s
    number_races_on focus s e held is = fails_from (numbered_on number operation args focus) s e
        (error.ErrorDataRace operation.name operation.at) (λ k. ap (λ (b : Bool).
        if b then core (Fail (error.ErrorDataRace operation.name operation.at)) k s.local
        else core (Question (number_on_focus number operation args focus)) k s.local) held) is

  module _ (number : ℕ) (args : List (Dynamic H)) (s : State S H) where
    abbrev called : List (Dynamic H) → Call H
    called xs = record (call_of (operation_named (codes "call") pos) xs) { number = Some number }

    abbrev race : EvalAltResult H
    race = error.ErrorDataRace (codes "call") pos

    -- and so it is by itself
    asks_alone : (new : State S H) (r : Result (Dynamic H) (EvalAltResult H)) → races s.local.around.cells args ≡ false →
        Runs rules (Question (called args)) s r new →
        Goes rules (number_alone number pos args) s (came_from pos (Ended (with_changed false r))) new
    unfolding Goes
    asks_alone new r free runs k = rw (unchanged_call_ends r)
        (subst (λ (b : Bool). Leads (machine rules) (cut rules)
        (with_core (if b then core (Fail race) k s.local else core (Question (called args)) k s.local) s) (at (ended r) k new))
        (sym free) (runs k))

    pub number_asks_alone : (all : List (Dynamic H)) → args ≡ all → (new : State S H) (r : Result (Dynamic H) (EvalAltResult H)) →
        races s.local.around.cells args ≡ false → Runs rules (Question (called all)) s r new →
        Goes rules (number_alone number pos args) s (came_from pos (Ended (with_changed false r))) new
    number_asks_alone all is new r free runs =
        asks_alone new r free (subst (λ (xs : List (Dynamic H)). Runs rules (Question (called xs)) s r new) (sym is) runs)

    pub number_races_alone : (e : EvalAltResult H) → races s.local.around.cells args ≡ true →
        (is_out_of_memory e ≡ false → e ≡ race) → Goes rules (number_alone number pos args) s (came_from pos (Ended (Err e))) s
    number_races_alone e held is = fails_from (number_alone number pos args) s e race
        (λ k. ap (λ (b : Bool). if b then core (Fail race) k s.local else core (Question (called args)) k s.local) held) is
