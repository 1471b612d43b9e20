-- The rules of assignment to a variable.
use Rattle.std.specs.Prelude.{ℕ, Bool, true, false, List, [], ◌∷◌, ◌++◌, Option, Some, None, Result, Ok, Err, codes, nat_eq}
use Rattle.std.specs.List.{starts_with}
use Rattle.rhai_machine.specs.Types.{Dynamic, EvalAltResult, Expr, OpAssignment, Position, Token, Union}
use Rattle.rhai_tree.specs.declared.expr.Expr.TheOpen as layer
use Rattle.rhai_tree.specs.Layers.{ExprLayer}
use Rattle.rhai_tree.specs.Positions.{position_of}
use Rattle.rhai_tree.specs.Tokens.{syntax_of}
use Rattle.rhai_values.specs.declared.base.value.AccessMode.TheVariants.{ReadWrite}
use Rattle.rhai_values.specs.declared.base.value.Union.TheVariants as value
use Rattle.rhai_errors.specs.declared.error.EvalAltResult.TheVariants as error
use Rattle.rhai_values.specs.Modes.{with_mode}
use Rattle.rhai_errors.specs.Native.{Reply, Missing, Gives, Faults, Named, OfName, request}
use Rattle.rhai_values.specs.TypeNames.{type_name_of}
use Rattle.rhai_operators.specs.Answers.{Answer, op_assign_of}
use Rattle.rhai_machine.specs.machine.Machine.{Move, Halt, Go, Native, AskPure}
use Rattle.rhai_machine.specs.language.Setting.{Setting}
use Rattle.rhai_machine.specs.language.State.{Local}
use Rattle.rhai_machine.specs.language.Values.{unit_value}
use Rattle.rhai_machine.specs.language.Variables.{Variable, no_path, variable_named}
use Rattle.rhai_machine.specs.language.Names.{bound_this}
use Rattle.rhai_machine.specs.language.Places.{Place, Target, is_barred, put, this_target, while_lent}
use Rattle.rhai_machine.specs.language.Frames.{Operation, Attempt, InPlace, AsValue, Assignment, Update}
use Rattle.rhai_machine.specs.language.Frames.{Frame, Control, Core, core, on_value}
use Rattle.rhai_machine.specs.language.Frames.{Eval, AskUpdate, FireUpdate, Back, Fail, AssignValue, AssignThisValue, AssignChain}
use Rattle.rhai_machine.specs.language.Calls.{operation_at, with_position, sized, applied, replied}

-- the name of the native of an attempt: in `x += y` first `+=`, and then `+`
abbrev pub native_of : Attempt → Token → List ℕ
native_of InPlace token = syntax_of token ++ codes "="
native_of AsValue token = syntax_of token

-- an assignment to a variable
abbrev pub assignment_to : Variable → OpAssignment → Assignment
assignment_to variable op = record { path = variable.path; name = variable.name; at = variable.at; op = op }

-- the variable of an assignment
abbrev pub variable_of_assignment : Assignment → Variable
variable_of_assignment assignment = record { path = assignment.path; name = assignment.name; at = assignment.at }

module _ {H : Type 0} where
  -- an assignment to `this`, which has to be bound before the right side is evaluated
  abbrev pub to_this : Result (Dynamic H) (EvalAltResult H) → OpAssignment → Position → Expr → List (Frame H) → Local H → Core H
  to_this r op at rhs k l = on_value r (λ this. core (Eval rhs) (AssignThisValue op at (position_of rhs) ∷ k) l) k l

  -- an assignment by its left side: the right side is evaluated first; to anything but a variable, `this` or a chain there is no step
  abbrev pub assignment_move : ExprLayer → OpAssignment → Expr → List (Frame H) → Local H → Move H (Core H)
  assignment_move (layer.Variable offset name namespace pos) op rhs k l =
      Go (core (Eval rhs) (AssignValue (assignment_to (variable_named name namespace pos) op) (position_of rhs) ∷ k) l)
  assignment_move (layer.ThisPtr pos) op rhs k l = Go (to_this (bound_this pos l.this) op pos rhs k l)
  assignment_move (layer.Index lhs rest options pos) op rhs k l =
      Go (core (Eval rhs) (AssignChain lhs (layer.Index lhs rest options pos) op (position_of rhs) ∷ k) l)
  assignment_move (layer.Dot lhs rest options pos) op rhs k l =
      Go (core (Eval rhs) (AssignChain lhs (layer.Dot lhs rest options pos) op (position_of rhs) ∷ k) l)
  assignment_move _ op rhs k l = Halt

  -- a result is written to a place, and the assignment gives `()`; an error leaves the place as it is
  abbrev pub written_core : Result (Dynamic H) (EvalAltResult H) → Place → List (Frame H) → Local H → Core H
  written_core r place k l = on_value r (λ v. core (Back unit_value) k (put place v l)) k l

  -- an assignment is done, and gives `()` unless its last measurement failed
  abbrev pub done : {A : Type 0} → Result A (EvalAltResult H) → Control H
  done (Ok v) = Back unit_value
  done (Err e) = Fail e

  -- the built-in's answer under fast operators; without them there is none yet
  abbrev pub if_fast : Bool → Answer H → Answer H
  if_fast true answer = answer
  if_fast false answer = None

  -- whether an error says that no function has this name
  abbrev pub says_missing : List ℕ → EvalAltResult H → Bool
  says_missing name (error.ErrorFunctionNotFound text at) = starts_with nat_eq text name
  says_missing name _ = false

  -- the operator of an update, under the name of the native that is asked
  abbrev pub operation_of : Update H → Operation
  operation_of u = operation_at (native_of u.attempt u.operator) u.operator u.at

  -- the target of an update as a native left it
  abbrev pub target_left : Update H → Option (Dynamic H) → Dynamic H
  target_left u (Some v) = v
  target_left u None = u.target

  module _ (s : Setting H) where
    -- the answer of a built-in is measured at the operator and written; where there is none the native is asked
    abbrev pub update_core : Answer H → Update H → List (Frame H) → Local H → Core H
    update_core (Some r) u k l = written_core (applied s.limits r u.at) u.place k l
    update_core None u k l = core (AskUpdate u) k l

    -- a target is assigned to: without an operator the value is written, read-write, and with one the target is updated
    abbrev pub assign_core : Option Token → Assignment → Target H → Dynamic H → List (Frame H) → Local H → Core H
    assign_core None assignment target v k l = core (Back unit_value) k (put target.place (with_mode ReadWrite v) l)
    assign_core (Some token) assignment target v k l =
        update_core (if_fast s.offer.fast_operators (op_assign_of token target.value v))
        (record {
          attempt = InPlace;
          operator = token;
          at = assignment.op.position;
          place = target.place;
          target = target.value;
          operand = v;
          target_at = assignment.at;
        })
        k l

    -- a variable is assigned to, once it is charged: its target is found, or the assignment fails
    abbrev pub store_core : Result (Target H) (EvalAltResult H) → Assignment → Dynamic H → List (Frame H) → Local H → Core H
    store_core r assignment v k l = on_value r (λ target. assign_core assignment.op.op assignment target v k l) k l

    -- `this` is assigned to, once it is charged
    abbrev pub store_this : OpAssignment → Position → Dynamic H → List (Frame H) → Local H → Core H
    store_this op at v k l =
        store_core (this_target l.around.cells at l.this) (record { path = no_path; name = []; at = at; op = op }) v k l

    -- the native of an update is called, unless its target is kept from it
    abbrev pub barred_core : (barred : Bool) → Update H → List (Frame H) → Local H → Core H
    barred_core true u k l = core (Fail (error.ErrorNonPureMethodCallOnConstant (native_of u.attempt u.operator) u.at)) k l
    barred_core false u k l = core (FireUpdate u) k l

    -- the table is asked whether the native of an update is pure: a constant, which `op=` may have left, is kept from one that is not
    abbrev pub question_update : Update H → List (Frame H) → Local H → Move H (Core H)
    question_update u k l =
        AskPure (OfName (native_of u.attempt u.operator) (type_name_of s.host_type l.around.cells u.target) 2)
        (λ pure. barred_core (is_barred pure u.target) u k l)

    -- the native `op=` has changed the target: its value is dropped, and the target is measured
    abbrev pub changed_core : Result (Dynamic H) (EvalAltResult H) → Update H → List (Frame H) → Local H → Core H
    changed_core r u k l = on_value r (λ v. core (done (sized s.limits u.target u.target_at)) k l) k l

    -- the native `op=` failed: where the error says that it is missing the native `op` is asked, and else the error comes down
    abbrev pub fault_core : (missing : Bool) → EvalAltResult H → Update H → List (Frame H) → Local H → Core H
    fault_core true e u k l = core (AskUpdate (record u { attempt = AsValue })) k l
    fault_core false e u k l = core (Fail e) k l

    -- the native `op` gave the target's new value, which is written and measured
    abbrev pub value_core : Result (Dynamic H) (EvalAltResult H) → Update H → List (Frame H) → Local H → Core H
    value_core r u k l = on_value r (λ v. core (done (sized s.limits v u.target_at)) k (put u.place v l)) k l

    -- what comes of the answer of an update's native, with the target as the native left it
    abbrev pub answered_core : Attempt → Reply H → Update H → List (Frame H) → Local H → Core H
    answered_core InPlace Missing u k l = update_core (op_assign_of u.operator u.target u.operand) (record u { attempt = AsValue }) k l
    answered_core InPlace (Gives v) u k l = changed_core (sized s.limits v u.at) u k l
    answered_core InPlace (Faults e) u k l = fault_core (says_missing (native_of InPlace u.operator) e) (with_position u.at e) u k l
    answered_core AsValue reply u k l = value_core (replied s.limits s.host_type reply (Some u.target) (u.operand ∷ []) (operation_of u)
        false l.around.cells) u k l

    -- the target as the native left it is written back, whatever the answer, and then the answer is looked at
    abbrev pub lent_core : Reply H → Dynamic H → Update H → List (Frame H) → Local H → Core H
    lent_core reply v u k l = answered_core u.attempt reply (record u { target = v }) k (put u.place v l)

    -- the native of an update is called, with its target lent
    abbrev pub call_update : Update H → List (Frame H) → Local H → Move H (Core H)
    call_update u k l =
        Native (request (while_lent u.place l.around.cells) (Named (native_of u.attempt u.operator)) (Some u.target) (u.operand ∷ []) u.at)
        (λ reply left. lent_core reply (target_left u left) u k l)

    -- the native of an update is called; a target that is still a handle is a data race
    abbrev pub fire_update : Union H → Update H → List (Frame H) → Local H → Move H (Core H)
    fire_update (value.Cell id) u k l = Go (core (Fail (error.ErrorDataRace (native_of u.attempt u.operator) u.at)) k l)
    fire_update _ u k l = call_update u k l
