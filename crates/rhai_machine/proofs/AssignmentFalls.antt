-- The moves of assignments to a place make a core smaller.
use Rattle.std.proofs.Common.{arith}
use Rattle.std.specs.Prelude.{◌<◌, ◌≤◌, ◌+◌, Bool, true, false, List, [], ◌∷◌, Option, Some, None, Result, Ok, Err}
use Rattle.rhai_tree.specs.declared.token.Token.{Token}
use Rattle.rhai_values.specs.declared.base.value.Dynamic.{Dynamic}
use Rattle.rhai_values.specs.declared.base.value.Union.{Union}
use Rattle.rhai_values.specs.declared.base.value.Union.TheVariants as value
use Rattle.rhai_errors.specs.declared.error.EvalAltResult.{EvalAltResult}
use Rattle.rhai_errors.specs.Native.{Reply, Missing, Gives, Faults}
use Rattle.rhai_operators.specs.Answers.{Answer, op_assign_of}
use Rattle.rhai_machine.specs.machine.Settling.{Falls}
use Rattle.rhai_machine.specs.language.Setting.{Setting}
use Rattle.rhai_machine.specs.language.State.{Local}
use Rattle.rhai_machine.specs.language.Frames.{Attempt, InPlace, AsValue, Assignment, Update, Frame, core, FireUpdate}
use Rattle.rhai_machine.specs.language.Places.{Place, Target, put}
use Rattle.rhai_machine.specs.language.Assignment.{native_of, written_core, done, if_fast, says_missing, operation_of, target_left}
use Rattle.rhai_machine.specs.language.Assignment.{update_core}
use Rattle.rhai_machine.specs.language.Assignment.{assign_core, store_core, changed_core, fault_core, value_core, answered_core}
use Rattle.rhai_machine.specs.language.Assignment.{barred_core, call_update, fire_update}
use Rattle.rhai_machine.specs.language.Calls.{replied, applied, sized, with_position}
use Rattle.rhai_machine.proofs.Sizes.{control_size, stack_size, size}

module _ {H : Type 0} where
  module _ (s : Setting H) where
    written_falls : (r : Result (Dynamic H) (EvalAltResult H)) (place : Place) (k : List (Frame H)) (l : Local H) →
        size (written_core r place k l) < 12 + stack_size k
    written_falls (Ok v) place k l = omega arith
    written_falls (Err e) place k l = omega arith

    done_size : (r : Result (Dynamic H) (EvalAltResult H)) → control_size (done r) ≤ 11
    done_size (Ok v) = omega arith
    done_size (Err e) = omega arith

    update_falls : (answer : Answer H) (u : Update H) (k : List (Frame H)) (l : Local H) →
        size (update_core s answer u k l) < 12 + stack_size k
    update_falls (Some r) u k l = written_falls (applied s.limits r u.at) u.place k l
    update_falls None u k l = omega arith

    pub assign_falls : (op : Option Token) (assignment : Assignment) (target : Target H) (v : Dynamic H) (k : List (Frame H))
        (l : Local H) →
        size (assign_core s op assignment target v k l) < 12 + stack_size k
    assign_falls None assignment target v k l = omega arith
    assign_falls (Some token) assignment target v k l = update_falls (if_fast s.offer.fast_operators (op_assign_of token target.value v))
        _ k l

    pub store_falls : (r : Result (Target H) (EvalAltResult H)) (assignment : Assignment) (v : Dynamic H) (k : List (Frame H))
        (l : Local H) → size (store_core s r assignment v k l) < 12 + stack_size k
    store_falls (Ok target) assignment v k l = assign_falls assignment.op.op assignment target v k l
    store_falls (Err e) assignment v k l = omega arith

    changed_falls : (r : Result (Dynamic H) (EvalAltResult H)) (u : Update H) (k : List (Frame H)) (l : Local H) →
        size (changed_core s r u k l) < 12 + stack_size k
    changed_falls (Ok v) u k l = omega (arith, done_size (sized s.limits u.target u.target_at))
    changed_falls (Err e) u k l = omega arith

    fault_falls : (missing : Bool) (e : EvalAltResult H) (u : Update H) (k : List (Frame H)) (l : Local H) →
        size (fault_core s missing e u k l) < 12 + stack_size k
    fault_falls true e u k l = omega arith
    fault_falls false e u k l = omega arith

    value_falls : (r : Result (Dynamic H) (EvalAltResult H)) (u : Update H) (k : List (Frame H)) (l : Local H) →
        size (value_core s r u k l) < 12 + stack_size k
    value_falls (Ok v) u k l = omega (arith, done_size (sized s.limits v u.target_at))
    value_falls (Err e) u k l = omega arith

    answered_falls : (attempt : Attempt) (reply : Reply H) (u : Update H) (k : List (Frame H)) (l : Local H) →
        size (answered_core s attempt reply u k l) < 12 + stack_size k
    answered_falls InPlace Missing u k l = update_falls (op_assign_of u.operator u.target u.operand) (record u { attempt = AsValue }) k l
    answered_falls InPlace (Gives v) u k l = changed_falls (sized s.limits v u.at) u k l
    answered_falls InPlace (Faults e) u k l = fault_falls (says_missing (native_of InPlace u.operator) e) (with_position u.at e) u k l
    answered_falls AsValue reply u k l = value_falls (replied s.limits s.host_type reply (Some u.target) (u.operand ∷ [])
        (operation_of u) false l.around.cells) u k l

    update_native_falls : (u : Update H) (k : List (Frame H)) (l : Local H) → Falls size (core (FireUpdate u) k l) (call_update s u k l)
    update_native_falls u k l reply left = answered_falls u.attempt reply (record u { target = target_left u left }) k
        (put u.place (target_left u left) l)

    pub barred_falls : (barred : Bool) (u : Update H) (k : List (Frame H)) (l : Local H) →
        size (barred_core s barred u k l) < 13 + stack_size k
    barred_falls true u k l = omega arith
    barred_falls false u k l = omega arith

    pub fire_update_falls : (v : Union H) (u : Update H) (k : List (Frame H)) (l : Local H) →
        Falls size (core (FireUpdate u) k l) (fire_update s v u k l)
    fire_update_falls (value.Cell id) u k l = omega arith
    fire_update_falls _ u k l = update_native_falls u k l
