-- An assignment that is done in place: its value and its target are charged, and what the built-in gave is written.
use Rattle.std.proofs.Common.{◌≡◌, ◌<◌, ◌≤◌, ◌+◌, Bool, true, List, ◌∷◌, Option, Some, None, Result}
use Rattle.std.proofs.Common.{Ok, Err, IfErr, refl, sym, ap, subst, ◌∙◌}
use Rattle.std.specs.declared.num.NonZeroUsize.{NonZeroUsize}
use Rattle.rhai_tree.specs.declared.position.Position.{Position}
use Rattle.rhai_tree.specs.declared.token.Token.{Token}
use Rattle.rhai_tree.specs.declared.expr.Expr.{Expr, out-Expr}
use Rattle.rhai_tree.specs.declared.expr.Expr.TheOpen as layer
use Rattle.rhai_tree.specs.declared.expr.Namespace.{Namespace}
use Rattle.rhai_tree.specs.declared.expr.OpAssignment.{OpAssignment}
use Rattle.rhai_tree.specs.Positions.{position_of}
use Rattle.rhai_tree.specs.Names.{Name}
use Rattle.rhai_values.specs.declared.base.value.Dynamic.{Dynamic}
use Rattle.rhai_values.specs.declared.cells.CellStore.{CellStore}
use Rattle.rhai_values.specs.Cells.{cells_of}
use Rattle.rhai_values.specs.Copy.{copy_of}
use Rattle.rhai_state.specs.declared.scope.Scope.{Scope}
use Rattle.rhai_lookups.specs.declared.run.RunState.{RunState}
use Rattle.rhai_errors.specs.declared.error.EvalAltResult.{EvalAltResult}
use Rattle.rhai_errors.specs.declared.error.EvalAltResult.TheVariants as error
use Rattle.rhai_state.specs.Scope.{entries_of}
use Rattle.rhai_operators.specs.Answers as operators
use Rattle.rhai_operators.specs.Answers.{op_assign_of}
use Rattle.rhai_machine.specs.machine.Machine.{Go}
use Rattle.rhai_machine.specs.machine.Memory.{here, next, ◌⨾◌, Leads}
use Rattle.rhai_machine.specs.machine.Point.{after}
use Rattle.rhai_machine.specs.language.Setting.{Rules, globals_of, limit_under, cut}
use Rattle.rhai_machine.specs.language.State.{Held, Local, State}
use Rattle.rhai_machine.specs.language.Calls.{applied}
use Rattle.rhai_machine.specs.language.Places.{target}
use Rattle.rhai_machine.specs.language.Variables.{variable_named}
use Rattle.rhai_machine.specs.language.Assignment.{assign_core, assignment_to, if_fast, update_core, written_core}
use Rattle.rhai_machine.specs.language.Frames.{Assignment, Frame, InPlace, Update, core, on_value, Assign, ended}
use Rattle.rhai_machine.specs.language.Frames.{AssignValue, Eval, Fail, OpenStmt}
use Rattle.rhai_machine.specs.language.Runs.{at, Runs, Steps, Goes}
use Rattle.rhai_machine.specs.language.Language.{machine}
use Rattle.rhai_steps.specs.States.{local_of, state_of, surroundings_of}
use Rattle.rhai_steps.proofs.Pieces.{step_by}
use Rattle.rhai_steps.specs.Follows.{Follows}
use Rattle.rhai_operands.specs.Standing.{standing}
use Rattle.rhai_operands.proofs.InPlace.{assign_copied, flat_copy}
use Rattle.rhai_operands.proofs.Standing.{standing_plain, value_goes, value_refused}
use Rattle.rhai_assign.specs.declared.place.Place as code
use Rattle.rhai_assign.specs.Targets.{named_target, place_in, standing_at}
use Rattle.rhai_assign.specs.Updates.{Becomes, update_of}
use Rattle.rhai_assign.proofs.Entries.{named_meant}
use Rattle.rhai_assign.proofs.Updates.{assigns, built, follows_alike, refuses_assignment}

module _ {S H : Type 0} (rules : Rules S H) where
  -- an assignment to a variable begins with its value
  pub begins_assignment : (op : OpAssignment) (lhs rhs : Expr) (offset : Option NonZeroUsize) (name : Name) (namespace : Namespace)
      (pos : Position) (restoring : Bool) (k : List (Frame H)) (l : State S H) →
      out-Expr lhs ≡ layer.Variable offset name namespace pos →
      Leads (machine rules) (cut rules) (at (OpenStmt (layer.Assignment op lhs rhs) restoring) k l)
      (at (Eval rhs) (AssignValue (assignment_to (variable_named name namespace pos) op) (position_of rhs) ∷ k) l)
  unfolding after
  begins_assignment op lhs rhs offset name namespace pos restoring k l is = next (rw is here)

  module _ (t : S) (scope : Scope H) (held : Held H) (op : OpAssignment) (lhs rhs : Expr) (offset : Option NonZeroUsize)
      (name : Name) (namespace : Namespace) (pos : Position) (restoring : Bool) (y : Dynamic H)
      (form : out-Expr lhs ≡ layer.Variable offset name namespace pos) (given : standing (out-Expr rhs) (entries_of scope) ≡ Some y) where
    abbrev assignment : Assignment
    assignment = assignment_to (variable_named name namespace pos) op

    -- the value is refused
    pub value_stops : (old new : RunState H) (e : EvalAltResult H) → limit_under rules ≤ old.num_operations →
        e ≡ error.ErrorTooManyOperations (position_of rhs) → new ≡ old →
        Steps rules (OpenStmt (layer.Assignment op lhs rhs) restoring) (state_of t old scope held) (Fail e) (state_of t new scope held)
    unfolding after Goes
    value_stops old new e full is same k =
        begins_assignment op lhs rhs offset name namespace pos restoring k (state_of t old scope held) form
        ⨾ value_refused rules rhs y t old new scope held given e full is same (AssignValue assignment (position_of rhs) ∷ k)
        ⨾ next here

    module _ (old mid : RunState H) (room : old.num_operations < limit_under rules)
        (is : mid ≡ record old { num_operations = old.num_operations + 1 }) where
      -- or there
      value_comes : (k : List (Frame H)) →
          Leads (machine rules) (cut rules) (at (OpenStmt (layer.Assignment op lhs rhs) restoring) k (state_of t old scope held))
          (at (Assign assignment (copy_of y)) k (state_of t mid scope held))
      value_comes k =
          begins_assignment op lhs rhs offset name namespace pos restoring k (state_of t old scope held) form
          ⨾ value_goes rules rhs y t old mid scope held given room is (AssignValue assignment (position_of rhs) ∷ k)
          ⨾ step_by rules _ _ (Go (core (Assign assignment (copy_of y)) k (state_of t mid scope held).local))
          (ap (λ (r : Result (Dynamic H) (EvalAltResult H)). Go (on_value r (λ v. core (Assign assignment v) k
          (state_of t mid scope held).local) k (state_of t mid scope held).local))
          (flat_copy (state_of t mid scope held).local.around.cells y.value (copy_of y) (position_of rhs)
          (standing_plain (out-Expr rhs) (entries_of scope) y given))) here

      -- the target is refused
      pub target_stops : (new : RunState H) (e : EvalAltResult H) → limit_under rules ≤ mid.num_operations →
          e ≡ error.ErrorTooManyOperations pos → new ≡ mid →
          Steps rules (OpenStmt (layer.Assignment op lhs rhs) restoring) (state_of t old scope held) (Fail e) (state_of t new scope held)
      unfolding Goes
      target_stops new e full refusal same k =
          value_comes k ⨾ refuses_assignment rules t mid new scope held assignment (copy_of y) e full refusal same k

      module _ (second : RunState H) (more : mid.num_operations < limit_under rules)
          (last : second ≡ record mid { num_operations = mid.num_operations + 1 }) (token : Token) (is_token : op.op ≡ Some token)
          (fast : rules.setting.offer.fast_operators ≡ true) where
        same_cells : second.cells ≡ old.cells
        same_cells = ap (λ (g : RunState H). g.cells) last ∙ ap (λ (g : RunState H). g.cells) is

        module _ (place : code.Place) (outcome result : Result (Dynamic H) (EvalAltResult H)) (new : RunState H) (later :
            Scope H)
            (finds : named_target (cells_of old.cells) namespace.path name pos (entries_of scope)
            ≡ Some (target (place_in place) (standing_at place scope old.cells)))
            (answers : operators.HasMemory (Some outcome) → Some outcome ≡ op_assign_of token (standing_at place scope old.cells) y)
            (counts : new.num_operations ≡ second.num_operations)
            (written : Becomes (written_core (applied rules.setting.limits outcome op.position) (place_in place)) (local_of second
            scope held)
            result (local_of new later held))
            (left_global : IfErr result (λ _. new ≡ second)) (left_scope : IfErr result (λ _. later ≡ scope)) where
          -- the target
          abbrev before : Dynamic H
          before = standing_at place scope second.cells

          abbrev updated : Update H
          updated = update_of (record { token = token; at = op.position; cell = None; target_at = pos }) InPlace (place_in place) before
              (copy_of y)

          answers_copy : operators.HasMemory (Some outcome) → Some outcome ≡ op_assign_of token before (copy_of y)
          answers_copy m = subst (λ (cells : CellStore H). Some outcome ≡ op_assign_of token (standing_at place scope cells) y) (sym
              same_cells)
              (answers m) ∙ sym (assign_copied token before y)

          starts : (k : List (Frame H)) (l : Local H) →
              assign_core rules.setting op.op assignment (target (place_in place) before) (copy_of y) k l
              ≡ update_core rules.setting (op_assign_of token before (copy_of y)) updated k l
          starts k l = ap (λ (o : Option Token). assign_core rules.setting o assignment (target (place_in place) before) (copy_of y) k
              l) is_token
              ∙ ap (λ (b : Bool). update_core rules.setting (if_fast b (op_assign_of token before (copy_of y))) updated k l) fast

          both_left : (r : Result (Dynamic H) (EvalAltResult H)) → IfErr r (λ _. new ≡ second) → IfErr r (λ _. later ≡ scope) →
              IfErr r (λ _. local_of new later held ≡ local_of second scope held)
          both_left (Ok v) g s = tt
          both_left (Err e) g s = rw (g, s) refl

          follows : Follows rules ended (assign_core rules.setting assignment.op.op assignment (target (place_in place) before) (copy_of y))
              (state_of t second scope held) result (state_of t new later held)
          follows = follows_alike rules _ (update_core rules.setting (op_assign_of token before (copy_of y)) updated)
              (state_of t second scope held) (state_of t new later held) result (λ k. starts k (local_of second scope held))
              (built rules updated (Some outcome) (op_assign_of token before (copy_of y)) outcome answers_copy refl t
              second.num_operations new.num_operations counts (local_of second scope held) (local_of new later held) result written
              (both_left result left_global left_scope))

          -- or what the built-in gave is written
          pub updates_in_place : Runs rules (OpenStmt (layer.Assignment op lhs rhs) restoring) (state_of t old scope held) result
              (state_of t new later held)
          unfolding Goes
          updates_in_place k = value_comes k ⨾ assigns rules t mid second scope held assignment (copy_of y) more last
              (target (place_in place) before) result (state_of t new later held)
              (named_meant (globals_of rules.setting.offer) (surroundings_of second) (entries_of scope) (variable_named name namespace pos)
              (target (place_in place) before) (subst (λ (cells : CellStore H). named_target (cells_of cells) namespace.path name pos
              (entries_of scope) ≡ Some (target (place_in place) (standing_at place scope cells))) (sym same_cells) finds)) follows k
