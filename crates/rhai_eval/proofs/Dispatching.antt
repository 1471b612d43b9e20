-- A call by name: what it comes to, and the function of a script that it enters.
use Rattle.std.proofs.Common.{◌≡◌, ◌||◌, Bool, true, false, List, [], ◌∷◌, ◌++◌, Option, Some, None, Result, Ok, Err, refl, sym, subst}
use Rattle.std.proofs.Common.{drop, length, take}
use Rattle.std.specs.Prelude.{not, if◌then◌else◌}
use Rattle.rhai_tree.specs.declared.position.Position.{Position}
use Rattle.rhai_values.specs.declared.base.value.Dynamic.{Dynamic}
use Rattle.rhai_values.specs.Copy.{copy_of}
use Rattle.rhai_errors.specs.declared.error.EvalAltResult.{EvalAltResult}
use Rattle.rhai_errors.specs.declared.error.EvalAltResult.TheVariants as error
use Rattle.rhai_errors.specs.Errors.{is_out_of_memory}
use Rattle.rhai_functions.specs.declared.function.Function.{Function}
use Rattle.rhai_machine.specs.machine.Memory.{here, out_before_step, ◌⨾◌, Leads}
use Rattle.rhai_machine.specs.language.Setting.{Rules, cut}
use Rattle.rhai_machine.specs.language.State.{Local, State}
use Rattle.rhai_machine.specs.language.Activations.{ThisFrom, NoThis, TheFocus}
use Rattle.rhai_machine.specs.language.Frames.{Operation, Lender, FromFocus, Dispatch, Call, Control, EnterFunction, Frame}
use Rattle.rhai_machine.specs.language.Frames.{core}
use Rattle.rhai_machine.specs.language.Frames.{Core, Fail}
use Rattle.rhai_machine.specs.language.Frames.{ended, ended_or_changed}
use Rattle.rhai_machine.specs.language.Calls.{args_given, dispatch_core, enter_core, entry_of}
use Rattle.rhai_machine.specs.language.Runs.{at, with_core, Runs, Steps, Goes}
use Rattle.rhai_machine.specs.language.Language.{machine}
use Rattle.rhai_calls.specs.declared.dispatch.Called.{Called}
use Rattle.rhai_calls.specs.declared.dispatch.Called.TheVariants.{Ended, Enters}
use Rattle.rhai_calls.specs.Dispatch.{came_to as dispatched_to}
use Rattle.rhai_steps.specs.Lending.{passed_call}
use Rattle.rhai_calls.specs.ToldChanges.{with_changed}
use Rattle.rhai_methods.specs.Methods.{IsEntered, MethodCall}
use Rattle.rhai_methods.specs.declared.calls.MethodEntry.TheVariants as entry
use Rattle.rhai_eval.specs.Entering.{came_out, came_to, IsByItself}
use Rattle.rhai_eval.specs.Places.{by_name, by_value, on_place}

-- of two that say that a first argument is lent, the other does where one does not
pub one_lends : (a b : Bool) → (a || b) ≡ true → b ≡ false → a ≡ true
one_lends true b either none = refl
one_lends false true either none = cc
one_lends false false either none = cc

-- a call that enters no function on a value does not
pub no_method : {H : Type 0} (call : MethodCall H) (f : Function H) (args : List (Dynamic H)) → call ≡ Enters (entry.OnTarget f args) →
    IsByItself call → ⊥
no_method call f args is alone = rw is at alone

-- and where neither does, none does
pub none_lends : (a b : Bool) → (a || b) ≡ false → (a ≡ false) × (b ≡ false)
none_lends true b either = cc
none_lends false true either = cc
none_lends false false either = (refl, refl)

-- nothing is left of a list without items that was lent
pub none_left : {A : Type 0} (list items : List A) → list ≡ [] → take (length list) (items ++ drop (length items) list) ≡ []
none_left list items is = rw is refl

-- what changed nothing ends as it would by itself
unchanged_result_ends : {H : Type 0} (r : Result (Dynamic H) (EvalAltResult H)) → ended_or_changed (with_changed false r) ≡ ended r
unchanged_result_ends (Ok v) = refl
unchanged_result_ends (Err e) = refl

module _ {S H : Type 0} (rules : Rules S H) where
  -- what runs to a value or an error comes back as one that changed no first argument
  pub runs_unchanged : (c : Control H) (old new : State S H) (r : Result (Dynamic H) (EvalAltResult H))
      (q : Result (Dynamic H × Bool) (EvalAltResult H)) → q ≡ with_changed false r → Runs rules c old r new →
      Steps rules c old (ended_or_changed q) new
  runs_unchanged c old new r q is runs = rw (is, unchanged_result_ends r) runs

  -- ---- a function that was found

  -- memory runs out where something begins
  control_runs_out : (c : Control H) (k : List (Frame H)) (s : State S H) (e : EvalAltResult H) → is_out_of_memory e ≡ true →
      Leads (machine rules) (cut rules) (at c k s) (at (Fail e) k s)
  control_runs_out c k s (error.ErrorOutOfMemory p) is = out_before_step {at = p} here
  control_runs_out c k s e is = cc

  module _ (is_fresh : Bool) (pos : Position) (f : Function H) (args : List (Dynamic H)) (k : List (Frame H)) (s : State S H) where
    abbrev entering : ThisFrom → Control H
    entering object = EnterFunction (entry_of f object is_fresh args pos s.local)

    -- it is entered on the value that the call works on, or memory runs out before
    enters_on : (x : MethodCall H) → IsEntered x (entry.OnTarget f args) →
        Leads (machine rules) (cut rules) (at (entering TheFocus) k s) (with_core (came_to is_fresh pos x k s.local) s)
    enters_on (Ended (Err e)) is = control_runs_out (entering TheFocus) k s e is
    enters_on x is = subst (λ (y : MethodCall H).
        Leads (machine rules) (cut rules) (at (entering TheFocus) k s) (with_core (came_to is_fresh pos y k s.local) s)) (sym is) here

    -- or by itself
    enters_alone : (x : MethodCall H) → IsEntered x (entry.Alone f args) →
        Leads (machine rules) (cut rules) (at (entering NoThis) k s) (with_core (came_to is_fresh pos x k s.local) s)
    enters_alone (Ended (Err e)) is = control_runs_out (entering NoThis) k s e is
    enters_alone x is = subst (λ (y : MethodCall H).
        Leads (machine rules) (cut rules) (at (entering NoThis) k s) (with_core (came_to is_fresh pos y k s.local) s)) (sym is) here

  module _ (operation : Operation) (lender : Option Lender) (guarded on_scope : Bool) (first : Dynamic H) (rest : List (Dynamic H)) where
    -- a call with a first argument
    abbrev passed : Call H
    passed = passed_call operation lender guarded true (first ∷ rest)

    module _ (f : Function H) (call : MethodCall H) where
      enters : (of_method : Bool) (k : List (Frame H)) (s : State S H) →
          (of_method ≡ true → IsEntered call (entry.OnTarget f rest)) →
          (of_method ≡ false → IsEntered call (entry.Alone f (args_given lender (first ∷ rest)))) →
          Leads (machine rules) (cut rules) (with_core (enter_core of_method f (by_name of_method on_scope) passed k s.local) s)
          (with_core (came_to (not on_scope) operation.at call k s.local) s)
      enters true k s on_it alone = enters_on (not on_scope) operation.at f rest k s call (on_it refl)
      enters false k s on_it alone =
          enters_alone (not on_scope) operation.at f (args_given lender (first ∷ rest)) k s call (alone refl)

      -- a call that has found a function enters it
      pub call_found : (of_method : Bool) (old new : State S H) →
          Goes rules (dispatch_core rules.setting (by_name of_method on_scope) passed) old
          (dispatched_to (by_name of_method on_scope) passed (Enters f)) new →
          (of_method ≡ true → IsEntered call (entry.OnTarget f rest)) →
          (of_method ≡ false → IsEntered call (entry.Alone f (args_given lender (first ∷ rest)))) →
          Goes rules (dispatch_core rules.setting (by_name of_method on_scope) passed) old (came_to (not on_scope) operation.at call) new
      unfolding Goes
      call_found of_method old new runs on_it alone k = runs k ⨾ enters of_method k new on_it alone

  -- ---- what a call comes to

  call_ended : (how : Dispatch) (call : Call H) (old new : State S H) (is_fresh : Bool) (pos : Position)
      (r : Result (Dynamic H × Bool) (EvalAltResult H)) →
      Goes rules (dispatch_core rules.setting how call) old (dispatched_to how call (Ended r)) new →
      Goes rules (dispatch_core rules.setting how call) old (came_to is_fresh pos (Ended r)) new
  unfolding Goes
  call_ended how call old new is_fresh pos r runs k = runs k

  module _ (operation : Operation) (first : Dynamic H) (rest : List (Dynamic H)) (on_scope is_ref of_method guarded : Bool)
      (d : Called (Dynamic H × Bool) (Function H) H) (old new : State S H) (is_guarded : guarded ≡ (is_ref || of_method))
      {read : Rules S H} (reads : read ≡ rules) where
    -- with its first argument lent it ends
    pub lent_ended : (r : Result (Dynamic H × Bool) (EvalAltResult H)) → d ≡ Ended r → (is_ref || of_method) ≡ true →
        Goes read (dispatch_core read.setting (by_name of_method on_scope)
        (passed operation (Some FromFocus) guarded on_scope first rest)) old
        (dispatched_to (by_name of_method on_scope) (passed operation (Some FromFocus) guarded on_scope first rest) d) new →
        Goes rules (dispatch_core rules.setting (by_name of_method on_scope) (on_place operation true (Some first) rest)) old
        (came_to (not on_scope) operation.at (Ended r)) new
    lent_ended r is lent runs = call_ended (by_name of_method on_scope) (passed operation (Some FromFocus) true on_scope first rest) old
        new (not on_scope) operation.at r (rw (reads, is, is_guarded, lent) at runs)

    -- or enters the function that it has found
    pub lent_found : (f : Function H) (call : MethodCall H) → d ≡ Enters f → (is_ref || of_method) ≡ true →
        (of_method ≡ true → IsEntered call (entry.OnTarget f rest)) →
        (of_method ≡ false → IsEntered call (entry.Alone f ((if is_ref then copy_of first else first) ∷ rest))) →
        Goes read (dispatch_core read.setting (by_name of_method on_scope)
        (passed operation (Some FromFocus) guarded on_scope first rest)) old
        (dispatched_to (by_name of_method on_scope) (passed operation (Some FromFocus) guarded on_scope first rest) d) new →
        Goes rules (dispatch_core rules.setting (by_name of_method on_scope) (on_place operation true (Some first) rest)) old
        (came_to (not on_scope) operation.at call) new
    lent_found f call is lent on_it alone runs =
        call_found operation (Some FromFocus) true on_scope first rest f call of_method old new
        (rw (reads, is, is_guarded, lent) at runs) on_it
        (λ none. rw (one_lends is_ref of_method lent none) at (alone none))

    -- the same of one by value
    pub value_ended : (r : Result (Dynamic H × Bool) (EvalAltResult H)) → d ≡ Ended r → (is_ref || of_method) ≡ false →
        Goes read (dispatch_core read.setting (by_name of_method on_scope) (passed operation None guarded on_scope first rest)) old
        (dispatched_to (by_name of_method on_scope) (passed operation None guarded on_scope first rest) d) new →
        Goes rules (dispatch_core rules.setting (by_name false on_scope) (by_value operation (Some first) rest)) old
        (came_to (not on_scope) operation.at (Ended r)) new
    value_ended r is none runs = call_ended (by_name false on_scope) (passed operation None false on_scope first rest) old
        new (not on_scope)
        operation.at r (rw (reads, is, is_guarded, none, (none_lends is_ref of_method none).1) at runs)

    pub value_found : (f : Function H) (call : MethodCall H) → d ≡ Enters f → (is_ref || of_method) ≡ false →
        (of_method ≡ false → IsEntered call (entry.Alone f ((if is_ref then copy_of first else first) ∷ rest))) →
        Goes read (dispatch_core read.setting (by_name of_method on_scope) (passed operation None guarded on_scope first rest)) old
        (dispatched_to (by_name of_method on_scope) (passed operation None guarded on_scope first rest) d) new →
        Goes rules (dispatch_core rules.setting (by_name false on_scope) (by_value operation (Some first) rest)) old
        (came_to (not on_scope) operation.at call) new
    value_found f call is none alone runs =
        let neither = none_lends is_ref of_method none in
        call_found operation None false on_scope first rest f call false old new (rw (reads, is, is_guarded, none, neither.1) at runs)
        (λ never. cc) (λ b. rw neither.0 at (alone neither.1))

  module _ (operation : Operation) (on_scope : Bool) (d : Called (Dynamic H × Bool) (Function H) H) (old new : State S H)
      {read : Rules S H} (reads : read ≡ rules) where
    -- one without arguments ends
    pub none_ended : (r : Result (Dynamic H × Bool) (EvalAltResult H)) → d ≡ Ended r →
        Goes read (dispatch_core read.setting (by_name false on_scope) (by_value operation None [])) old
        (dispatched_to (by_name false on_scope) (by_value operation None []) d) new →
        Goes rules (dispatch_core rules.setting (by_name false on_scope) (by_value operation None [])) old
        (came_out (not on_scope) operation.at (Ended r)) new
    unfolding Goes
    none_ended r is runs k = (rw (reads, is) at runs) k

    -- or is of a function
    pub none_found : (f : Function H) (args : List (Dynamic H)) → d ≡ Enters f → args ≡ [] →
        Goes read (dispatch_core read.setting (by_name false on_scope) (by_value operation None [])) old
        (dispatched_to (by_name false on_scope) (by_value operation None []) d) new →
        Goes rules (dispatch_core rules.setting (by_name false on_scope) (by_value operation None [])) old
        (came_out (not on_scope) operation.at (Enters (f, args))) new
    unfolding Goes
    none_found f args is none runs k = rw none ((rw (reads, is) at runs) k)

  module _ (is_fresh : Bool) (pos : Position) (start : List (Frame H) → Local H → Core H) (call : MethodCall H)
      (old middle new : State S H) where
    -- its answer
    pub ended_out : (r : Result (Dynamic H × Bool) (EvalAltResult H)) → call ≡ Ended r →
        Goes rules start old (came_to is_fresh pos call) new → Goes rules start old (came_out is_fresh pos (Ended r)) new
    unfolding Goes
    ended_out r is runs k = (rw is at runs) k

    -- that of a method which was entered
    pub method_out : (f : Function H) (args : List (Dynamic H)) (r : Result (Dynamic H × Bool) (EvalAltResult H)) →
        call ≡ Enters (entry.OnTarget f args) → Goes rules start old (came_to is_fresh pos call) middle →
        Steps rules (EnterFunction (entry_of f TheFocus is_fresh args pos middle.local)) middle (ended_or_changed r) new →
        Goes rules start old (came_out is_fresh pos (Ended r)) new
    unfolding Goes
    method_out f args r is to runs k = (rw is at to) k ⨾ runs k

    -- a function that is to be entered by itself
    pub alone_out : (f : Function H) (args : List (Dynamic H)) → call ≡ Enters (entry.Alone f args) →
        Goes rules start old (came_to is_fresh pos call) new → Goes rules start old (came_out is_fresh pos (Enters (f, args))) new
    unfolding Goes
    alone_out f args is runs k = (rw is at runs) k

  module _ (is_fresh : Bool) (pos : Position) (outcome : Called (Dynamic H × Bool) (Function H × List (Dynamic H)) H) where
    -- how it ends
    pub out_runs : (start : List (Frame H) → Local H → Core H) (old middle new : State S H)
        (r : Result (Dynamic H × Bool) (EvalAltResult H)) → Goes rules start old (came_out is_fresh pos outcome) middle →
        Goes rules (came_out is_fresh pos outcome) middle (core (ended_or_changed r)) new →
        Goes rules start old (core (ended_or_changed r)) new
    unfolding Goes
    out_runs start old middle new r out runs k = out k ⨾ runs k

    -- a call that has ended is at its end
    pub ended_runs : (r : Result (Dynamic H × Bool) (EvalAltResult H)) (s : State S H) → outcome ≡ Ended r →
        Goes rules (came_out is_fresh pos outcome) s (core (ended_or_changed r)) s
    unfolding Goes
    ended_runs r s is k = rw is here

    -- and a function that is entered runs to its end
    pub entered_runs : (f : Function H) (args : List (Dynamic H)) (old new : State S H) (r : Result (Dynamic H) (EvalAltResult H))
        (q : Result (Dynamic H × Bool) (EvalAltResult H)) → outcome ≡ Enters (f, args) → q ≡ with_changed false r →
        Runs rules (EnterFunction (entry_of f NoThis is_fresh args pos old.local)) old r new →
        Goes rules (came_out is_fresh pos outcome) old (core (ended_or_changed q)) new
    unfolding Goes
    entered_runs f args old new r q enters is runs k = rw (enters, is, unchanged_result_ends r) (runs k)
