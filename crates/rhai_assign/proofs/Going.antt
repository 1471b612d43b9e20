-- An assignment at a place of the code, which is taken from there and goes back, and one to the focus of a chain.
use Rattle.std.proofs.Common.{◌≡◌, Bool, true, false, List, [], Option, Some, None, Result, Ok, Err, refl, sym, ap, ◌∙◌}
use Rattle.rhai_tree.specs.declared.position.Position.{Position}
use Rattle.rhai_tree.specs.declared.expr.Expr.{Expr, out-Expr}
use Rattle.rhai_tree.specs.declared.expr.OpAssignment.{OpAssignment}
use Rattle.rhai_tree.specs.Positions.{position_of, start_of}
use Rattle.rhai_tree.specs.declared.token.Token.{Token}
use Rattle.rhai_values.specs.declared.base.value.AccessMode.TheVariants.{ReadWrite}
use Rattle.rhai_values.specs.declared.base.value.Dynamic.{Dynamic}
use Rattle.rhai_values.specs.declared.cells.CellStore.{CellStore}
use Rattle.rhai_values.specs.Cells.{cells_of}
use Rattle.rhai_values.specs.Modes.{with_mode}
use Rattle.rhai_state.specs.declared.scope.Scope.{Scope}
use Rattle.rhai_lookups.specs.declared.run.RunState.{RunState}
use Rattle.rhai_errors.specs.declared.error.EvalAltResult.{EvalAltResult}
use Rattle.rhai_errors.specs.declared.error.EvalAltResult.TheVariants as error
use Rattle.rhai_errors.specs.Errors.{is_out_of_memory, root_name}
use Rattle.rhai_state.specs.Scope.{entries_of}
use Rattle.rhai_operators.specs.Answers.{Answer, op_assign_of}
use Rattle.rhai_machine.specs.machine.Memory.{◌⨾◌}
use Rattle.rhai_machine.specs.language.Setting.{Rules}
use Rattle.rhai_machine.specs.language.State.{Held, Local, State}
use Rattle.rhai_machine.specs.language.Values.{unit_value}
use Rattle.rhai_machine.specs.language.Variables.{no_path}
use Rattle.rhai_machine.specs.language.Places.{InFocus, Target, focus_target, target, this_target, while_lent}
use Rattle.rhai_machine.specs.language.Members.{focus_of}
use Rattle.rhai_machine.specs.language.Assignment.{assign_core, if_fast, store_this, update_core}
use Rattle.rhai_machine.specs.language.Chains.{assign_focus}
use Rattle.rhai_machine.specs.language.Frames.{Assignment, AskUpdate, Core, Frame, InPlace, Update, on_value, core}
use Rattle.rhai_machine.specs.language.Frames.{ended}
use Rattle.rhai_machine.specs.language.Runs.{Runs, Goes}
use Rattle.rhai_steps.specs.States.{state_of}
use Rattle.rhai_steps.specs.Follows.{Follows, Does, FindsNoMemory}
use Rattle.rhai_assign.specs.declared.place.Place as code
use Rattle.rhai_assign.specs.Lending.{placed}
use Rattle.rhai_assign.specs.Targets.{IsPut, entries_put, place_in, value_standing_at}
use Rattle.rhai_assign.proofs.Lent.{as_it_was}
use Rattle.rhai_assign.proofs.Places.{local_put}
use Rattle.rhai_assign.proofs.Updates.{follows_alike, same_core}

module _ {H : Type 0} where
  -- no built-in takes a `()` before an `=`, and so none is tried
  none_takes : (token : Token) (v : Dynamic H) → op_assign_of token unit_value v ≡ None
  none_takes token v = refl

  none_tried : (fast : Bool) (answer : Answer H) → answer ≡ None → if_fast fast answer ≡ None
  none_tried true answer is = is
  none_tried false answer is = refl

module _ {S H : Type 0} (rules : Rules S H) where
  -- a part that goes from one state to another
  between : (start : List (Frame H) → Local H → Core H) (old old_as new new_as : State S H) (r : Result (Dynamic H) (EvalAltResult H)) →
      old ≡ old_as → new ≡ new_as → Follows rules ended start old r new → Follows rules ended start old_as r new_as
  between start old old_as new new_as r e f go = rw (← e, ← f) go

  -- what was lent from a place of the code has gone back there
  pub goes_back : (start : List (Frame H) → Local H → Core H) (place : code.Place) (v w : Dynamic H) (t called : S)
      (old lent : RunState H) (taken store : CellStore H) (before mid later : Scope H) (held : Held H)
      (r : Result (Dynamic H) (EvalAltResult H)) → value_standing_at place before old.cells ≡ Some v →
      entries_of mid ≡ entries_put (place_in place) unit_value (entries_of before) →
      cells_of taken ≡ while_lent (place_in place) (cells_of old.cells) → IsPut place w mid later lent.cells store →
      Follows rules ended start (placed (place_in place) v (state_of t (record old { cells = taken }) mid held)) r
      (placed (place_in place) w (state_of called lent mid held)) →
      Follows rules ended start (state_of t old before held) r (state_of called (record lent { cells = store }) later held)
  goes_back start place v w t called old lent taken store before mid later held r there e c wrote follows = between start _ _ _ _ r
      (ap (λ (l : Local H). record { table = t; count = old.num_operations; local = l })
      (as_it_was place v old taken before mid held there e c))
      (ap (λ (l : Local H). record { table = called; count = lent.num_operations; local = l })
      (sym (local_put place w lent store mid later held wrote))) follows

  module _ (root : Expr) (op : OpAssignment) (v : Dynamic H) (old : State S H) where
    -- where the focus of a chain is assigned to
    abbrev wanted : Result (Target H) (EvalAltResult H)
    wanted = focus_target old.local.around.cells (root_name (out-Expr root)) (start_of root) (focus_of old.local)

    abbrev assignment : Position → Assignment
    assignment at = record { path = no_path; name = root_name (out-Expr root); at = at; op = op }

    starts : (found : Result (Target H) (EvalAltResult H)) → wanted ≡ found → (k : List (Frame H)) →
        assign_focus rules.setting root (record { op = op; value = v }) k old.local
        ≡ on_value found (λ target. assign_core rules.setting op.op (assignment (position_of root)) target v k old.local) k old.local
    starts found is k = ap (λ (r : Result (Target H) (EvalAltResult H)). on_value r
        (λ target. assign_core rules.setting op.op (assignment (position_of root)) target v k old.local) k old.local) is

    -- its target is found
    pub focus_found : (new : State S H) (target : Target H) (at : Position) (result : Result (Dynamic H) (EvalAltResult H)) →
        wanted ≡ Ok target → at ≡ position_of root →
        Follows rules ended (assign_core rules.setting (assignment at).op.op (assignment at) target v) old result new →
        Follows rules ended (assign_focus rules.setting root (record { op = op; value = v })) old result new
    focus_found new target at result is stands follows = follows_alike rules _ _ old new result (starts (Ok target) is)
        (rw stands at follows)

    -- or it may not be assigned to
    pub focus_fails : (e : EvalAltResult H) → (is_out_of_memory e ≡ false → wanted ≡ Err e) →
        Follows rules ended (assign_focus rules.setting root (record { op = op; value = v })) old (Err e) old
    unfolding Goes
    focus_fails (error.ErrorOutOfMemory pos) is = FindsNoMemory pos refl refl
    focus_fails e is = Does (λ k. same_core rules _ _ old (starts (Err e) (is refl) k))

  module _ (op : OpAssignment) (pos : Position) (v : Dynamic H) (old : State S H) where
    -- where `this` is assigned to
    abbrev wanted_this : Result (Target H) (EvalAltResult H)
    wanted_this = this_target old.local.around.cells pos old.local.this

    abbrev of_this : Assignment
    of_this = record { path = no_path; name = []; at = pos; op = op }

    starts_this : (found : Result (Target H) (EvalAltResult H)) → wanted_this ≡ found → (k : List (Frame H)) →
        store_this rules.setting op pos v k old.local
        ≡ on_value found (λ target. assign_core rules.setting op.op of_this target v k old.local) k old.local
    starts_this found is k = ap (λ (r : Result (Target H) (EvalAltResult H)). on_value r
        (λ target. assign_core rules.setting op.op of_this target v k old.local) k old.local) is

    -- its target is found
    pub this_found : (new : State S H) (target : Target H) (result : Result (Dynamic H) (EvalAltResult H)) →
        wanted_this ≡ Ok target → Follows rules ended (assign_core rules.setting of_this.op.op of_this target v) old result new →
        Follows rules ended (store_this rules.setting op pos v) old result new
    this_found new target result is follows = follows_alike rules _ _ old new result (starts_this (Ok target) is) follows

    -- or it may not be assigned to
    pub this_fails : (e : EvalAltResult H) → (is_out_of_memory e ≡ false → wanted_this ≡ Err e) →
        Follows rules ended (store_this rules.setting op pos v) old (Err e) old
    unfolding Goes
    this_fails (error.ErrorOutOfMemory at) is = FindsNoMemory at refl refl
    this_fails e is = Does (λ k. same_core rules _ _ old (starts_this (Err e) (is refl) k))

  module _ (root : Expr) (op : OpAssignment) (v t : Dynamic H) (s : State S H) (is_unit : t ≡ unit_value) where
    -- the target of a `()` that was just inserted is the focus itself
    inserted : (token : Option Token) → op.op ≡ token → (k : List (Frame H)) →
        assign_focus rules.setting root (record { op = op; value = v }) k (placed InFocus t s).local
        ≡ assign_core rules.setting token (record { path = no_path; name = root_name (out-Expr root); at = position_of root; op = op })
        (target InFocus t) v k (placed InFocus t s).local
    inserted token is k = rw (← is) (starts root op v (placed InFocus t s) (Ok (target InFocus t)) (rw is_unit refl) k)

    -- a value is written to it
    pub inserted_written : (new : State S H) → op.op ≡ None → new ≡ placed InFocus (with_mode ReadWrite v) s →
        Goes rules (assign_focus rules.setting root (record { op = op; value = v })) (placed InFocus t s) (core (ended (Ok unit_value))) new
    unfolding Goes
    inserted_written new none is k = rw is (same_core rules _ _ (placed InFocus t s) (inserted None none k))

    -- by an operator its natives are asked
    abbrev asked : Token → Position → Update H
    asked token at = record {
      attempt = InPlace;
      operator = token;
      at = op.position;
      place = InFocus;
      target = t;
      operand = v;
      target_at = at;
    }

    pub inserted_updated : (new : State S H) (at : Position) (result : Result (Dynamic H) (EvalAltResult H)) (token : Token) →
        op.op ≡ Some token → at ≡ position_of root → Runs rules (AskUpdate (asked token at)) (placed InFocus t s) result new →
        Goes rules (assign_focus rules.setting root (record { op = op; value = v })) (placed InFocus t s) (core (ended result)) new
    unfolding Goes
    inserted_updated new at result token is stands runs k =
        let fast = rules.setting.offer.fast_operators in
        let tried : if_fast fast (op_assign_of token t v) ≡ None =
        none_tried fast (op_assign_of token t v) (rw is_unit (none_takes token v)) in
        let asks : Runs rules (AskUpdate (asked token (position_of root))) (placed InFocus t s) result new = rw stands at runs in
        same_core rules _ _ (placed InFocus t s) (inserted (Some token) is k ∙ ap (λ (answer : Answer H). update_core rules.setting answer
        (asked token (position_of root)) k (placed InFocus t s).local) tried) ⨾ asks k
