-- What the rules of calls and of assignments keep.
use Rattle.std.specs.Prelude.{◌+◌, ◌&&◌, length, Bool, true, false, List, [], ◌∷◌, ◌++◌}
use Rattle.std.specs.Prelude.{Option, Some, None, Result, Ok, Err, codes, is_some}
use Rattle.rhai_machine.specs.Types.{Dynamic, EvalAltResult, Expr, out-Expr, FnPtr, OpAssignment, Position, Token, Union}
use Rattle.rhai_tree.specs.declared.expr.FnCallExpr.{FnCallExpr}
use Rattle.rhai_tree.specs.declared.expr.Expr.TheOpen as layer
use Rattle.rhai_tree.specs.Forms.{is_unqualified}
use Rattle.rhai_tree.specs.Layers.{ExprLayer}
use Rattle.rhai_values.specs.declared.base.value.AccessMode.TheVariants.{ReadWrite}
use Rattle.rhai_values.specs.declared.base.value.FnPtr.{out-FnPtr}
use Rattle.rhai_values.specs.declared.base.value.FnPtrKind.{FnPtrKind}
use Rattle.rhai_values.specs.declared.base.value.FnPtrKind.TheVariants as kind
use Rattle.rhai_values.specs.declared.base.value.Union.TheVariants as value
use Rattle.rhai_values.specs.Modes.{with_mode}
use Rattle.rhai_errors.specs.Native.{Reply, Missing, Gives, Faults}
use Rattle.rhai_operators.specs.Answers.{Answer, op_assign_of}
use Rattle.rhai_machine.specs.language.Setting.{Setting, globals_of}
use Rattle.rhai_machine.specs.language.State.{Local}
use Rattle.rhai_machine.specs.language.Functions.{Function}
use Rattle.rhai_machine.specs.language.Activations.{NoThis}
use Rattle.rhai_machine.specs.language.Variables.{Path, Variable, path_of, variable_in}
use Rattle.rhai_machine.specs.language.Names.{bound_this}
use Rattle.rhai_machine.specs.language.Places.{Place, Target, is_barred, put}
use Rattle.rhai_machine.specs.language.Frames.{Operation, Dispatch, Call, Keyword, CallPointer, MakePointer, Curry, IsShared}
use Rattle.rhai_machine.specs.language.Frames.{IsDefinedVariable}
use Rattle.rhai_machine.specs.language.Frames.{Purpose, ToCall, ToCallOn, ToCallOnThis, ToCallFunction, ToCallNumber, ToCurry, ToChain}
use Rattle.rhai_machine.specs.language.Frames.{Attempt, InPlace, AsValue, Assignment, Update, Frame, core}
use Rattle.rhai_machine.specs.language.Calls.{First, first_of, put_left, call_native, fire_first, fire_move, barred_call, question_first}
use Rattle.rhai_machine.specs.language.Calls.{question_move, call_of, plainly, races, answered, behind_path, dispatch_core}
use Rattle.rhai_machine.specs.language.Calls.{operator_core, replied, applied, sized, with_position}
use Rattle.rhai_machine.specs.language.Arguments.{call_on, lent_this, this_in, is_captured, linked_to, arguments_there}
use Rattle.rhai_machine.specs.language.Arguments.{arguments_core, on_variable, on_this, captured_move, named_move, operation_named}
use Rattle.rhai_machine.specs.language.Arguments.{pointer_of, pointer_wanted, text_wanted, unlinked_core, pointer_core, keyword_core}
use Rattle.rhai_machine.specs.language.Arguments.{keyword_of, function_core, operation_in, behind_move, function_move}
use Rattle.rhai_machine.specs.language.Expressions.{call_move}
use Rattle.rhai_machine.specs.language.Methods.{Method, method_core}
use Rattle.rhai_machine.specs.language.Assignment.{to_this, assignment_move, written_core, done, if_fast, says_missing, operation_of}
use Rattle.rhai_machine.specs.language.Assignment.{native_of, target_left, update_core, assign_core, store_core, changed_core, fault_core}
use Rattle.rhai_machine.specs.language.Assignment.{value_core, answered_core, lent_core, barred_core, fire_update}
use Rattle.rhai_machine.proofs.MethodLaws.{Dispatched, dispatch_ends, linked_ends, method_ends}
use Rattle.rhai_limits.proofs.Keeping.{Asked, Calm, Good, Moves, put_keeps, on_keeps, ended_keeps, changed_keeps, if_keeps}

module _ {H : Type 0} (a : Asked) where
  -- ---- calls

  dispatched_keeps : (k : List (Frame H)) (l : Local H) → Calm a k l → Dispatched k l (Good a)
  dispatched_keeps k l h = record {
    fails = λ e. h;
    backs = λ v. h;
    asks = λ call. h;
    enters = λ f object is_fresh args at. h;
  }

  pub method_keeps : (s : Setting H) (method : Method) (args : List (Dynamic H)) (focus : Dynamic H) (k : List (Frame H)) (l : Local H) →
      Calm a k l → Good a (method_core s method args focus k l)
  method_keeps s method args focus k l h = method_ends s k l (Good a) (record {
    dispatched = dispatched_keeps k l h;
    questions = λ call. h;
  }) method args focus

  -- what a native leaves of its first argument goes back
  left_keeps : (from : Option Place) (left : Option (Dynamic H)) (k : List (Frame H)) (l : Local H) → Calm a k l →
      Calm a k (put_left from left l)
  left_keeps (Some place) (Some v) k l h = put_keeps a place v k l h
  left_keeps (Some place) None k l h = h
  left_keeps None left k l h = h

  reply_keeps : (marks : Bool) (reply : Reply H) (r : Result (Dynamic H) (EvalAltResult H)) (k : List (Frame H)) (l : Local H) →
      Calm a k l → Good a (core (answered marks reply r) k l)
  reply_keeps false reply r k l h = ended_keeps a r k l h
  reply_keeps true (Gives v) r k l h = changed_keeps a r k l h
  reply_keeps true Missing r k l h = ended_keeps a r k l h
  reply_keeps true (Faults e) r k l h = ended_keeps a r k l h

  -- ---- assignments

  to_this_keeps : (r : Result (Dynamic H) (EvalAltResult H)) (op : OpAssignment) (pos : Position) (rhs : Expr) (k : List (Frame H))
      (l : Local H) → Calm a k l → Good a (to_this r op pos rhs k l)
  to_this_keeps (Ok v) op pos rhs k l h = h
  to_this_keeps (Err e) op pos rhs k l h = h

  pub assignment_keeps : (form : ExprLayer) (op : OpAssignment) (rhs : Expr) (k : List (Frame H)) (l : Local H) → Calm a k l →
      Moves a (assignment_move form op rhs k l)
  assignment_keeps (layer.Variable offset name namespace pos) op rhs k l h = h
  assignment_keeps (layer.ThisPtr pos) op rhs k l h = to_this_keeps (bound_this pos l.this) op pos rhs k l h
  assignment_keeps (layer.Index lhs rest options pos) op rhs k l h = h
  assignment_keeps (layer.Dot lhs rest options pos) op rhs k l h = h
  assignment_keeps _ op rhs k l h = tt

  written_keeps : (r : Result (Dynamic H) (EvalAltResult H)) (place : Place) (k : List (Frame H)) (l : Local H) → Calm a k l →
      Good a (written_core r place k l)
  written_keeps (Ok v) place k l h = put_keeps a place v k l h
  written_keeps (Err e) place k l h = h

  done_keeps : {A : Type 0} (r : Result A (EvalAltResult H)) (k : List (Frame H)) (l : Local H) → Calm a k l → Good a (core (done r) k l)
  done_keeps (Ok v) k l h = h
  done_keeps (Err e) k l h = h

  module _ (s : Setting H) where
    -- ---- natives

    native_keeps : (call : Call H) (from : Option Place) (first : Option (Dynamic H)) (rest : List (Dynamic H)) (k : List (Frame H))
        (l : Local H) → Calm a k l → Moves a (call_native s call from first rest k l)
    native_keeps call from first rest k l h = λ reply left. reply_keeps call.marks reply
        (replied s.limits s.host_type reply left rest call.operation (is_some call.number) (put_left from left l).around.cells) k
        (put_left from left l) (left_keeps from left k l h)

    fire_first_keeps : (call : Call H) (rest : List (Dynamic H)) (r : Result (First H) (EvalAltResult H)) (k : List (Frame H))
        (l : Local H) → Calm a k l → Moves a (fire_first s call rest r k l)
    fire_first_keeps call rest (Ok first) k l h = native_keeps call first.from (Some first.value) rest k l h
    fire_first_keeps call rest (Err e) k l h = h

    pub fire_keeps : (call : Call H) (args : List (Dynamic H)) (k : List (Frame H)) (l : Local H) → Calm a k l →
        Moves a (fire_move s call args k l)
    fire_keeps call [] k l h = native_keeps call None None [] k l h
    fire_keeps call (x ∷ rest) k l h = fire_first_keeps call rest (first_of l.around.cells call x) k l h

    barred_call_keeps : (barred pure : Bool) (call : Call H) (k : List (Frame H)) (l : Local H) → Calm a k l →
        Good a (barred_call s barred pure call k l)
    barred_call_keeps true pure call k l h = h
    barred_call_keeps false pure call k l h = h

    question_first_keeps : (call : Call H) (rest : List (Dynamic H)) (r : Result (First H) (EvalAltResult H)) (k : List (Frame H))
        (l : Local H) → Calm a k l → Moves a (question_first s call rest r k l)
    question_first_keeps call rest (Ok first) k l h =
        λ pure. barred_call_keeps (call.guarded && is_barred pure first.value) pure call k l h
    question_first_keeps call rest (Err e) k l h = h

    pub question_keeps : (call : Call H) (args : List (Dynamic H)) (k : List (Frame H)) (l : Local H) → Calm a k l →
        Moves a (question_move s call args k l)
    question_keeps call [] k l h = λ pure. h
    question_keeps call (x ∷ rest) k l h = question_first_keeps call rest (first_of l.around.cells call x) k l h

    -- ---- calls whose arguments are there

    pub dispatch_keeps : (how : Dispatch) (call : Call H) (k : List (Frame H)) (l : Local H) → Calm a k l →
        Good a (dispatch_core s how call k l)
    dispatch_keeps how call k l h =
        dispatch_ends k l (Good a) (dispatched_keeps k l h) s how call

    pub operator_keeps : (builtin : Option (Result (Dynamic H) (EvalAltResult H))) (call : Call H) (k : List (Frame H)) (l : Local H) →
        Calm a k l → Good a (operator_core s builtin call k l)
    operator_keeps (Some r) call k l h = ended_keeps a (applied s.limits r call.operation.at) k l h
    operator_keeps None call k l h = dispatch_keeps (plainly false false) call k l h

    arguments_there_keep : (purpose : Purpose H) (args : List (Dynamic H)) (k : List (Frame H)) (l : Local H) → Calm a k l →
        Good a (arguments_there s purpose args k l)
    arguments_there_keep (ToCall operation curried how) args k l h = dispatch_keeps how (call_of operation (curried ++ args)) k l h
    arguments_there_keep (ToCallOn operation variable how) args k l h =
        on_keeps a (call_on (globals_of s.offer) l.around l.scope operation variable args) _ k l h (λ call. dispatch_keeps how call k l h)
    arguments_there_keep (ToCallOnThis operation this_at how) args k l h =
        on_keeps a (bound_this this_at l.this) _ k l h (λ v. dispatch_keeps how (lent_this operation args v) k l h)
    arguments_there_keep (ToCallFunction f at curried) args k l h =
        linked_ends k l (Good a) (dispatched_keeps k l h) f NoThis at (curried ++ args)
    arguments_there_keep (ToCallNumber number operation curried) args k l h =
        if_keeps a (races l.around.cells (curried ++ args)) _ _ h h
    arguments_there_keep (ToCurry pointer) args k l h = h
    arguments_there_keep (ToChain chain (Some rest)) args k l h = h
    arguments_there_keep (ToChain chain None) args k l h = h

    pub arguments_keep : (purpose : Purpose H) (made : List (Dynamic H)) (args : List Expr) (k : List (Frame H)) (l : Local H) →
        Calm a k l → Good a (arguments_core s purpose made args k l)
    arguments_keep purpose made [] k l h = arguments_there_keep purpose made k l h
    arguments_keep purpose made (arg ∷ args) k l h = h

    -- ---- calls as they are written

    on_variable_keeps : (variable : Option Variable) (operation : Operation) (how : Dispatch) (arg : Expr) (args : List Expr)
        (k : List (Frame H)) (l : Local H) → Calm a k l → Moves a (on_variable s variable operation how arg args k l)
    on_variable_keeps (Some variable) operation how arg args k l h = arguments_keep (ToCallOn operation variable how) [] args k l h
    on_variable_keeps None operation how arg args k l h = arguments_keep (ToCall operation [] how) [] (arg ∷ args) k l h

    on_this_keeps : (there : Option Position) (operation : Operation) (how : Dispatch) (arg : Expr) (args : List Expr)
        (k : List (Frame H)) (l : Local H) → Calm a k l → Moves a (on_this s there operation how arg args k l)
    on_this_keeps (Some at) operation how arg args k l h = arguments_keep (ToCallOnThis operation at how) [] args k l h
    on_this_keeps None operation how arg args k l h = on_variable_keeps (variable_in (out-Expr arg)) operation how arg args k l h

    captured_keeps : (captured alone : Bool) (operation : Operation) (arg : Expr) (args : List Expr) (k : List (Frame H)) (l : Local H) →
        Calm a k l → Moves a (captured_move s captured alone operation arg args k l)
    captured_keeps true alone operation arg args k l h =
        arguments_keep (ToCall operation [] (plainly alone true)) [] (arg ∷ args) k l h
    captured_keeps false alone operation arg args k l h =
        on_this_keeps (this_in (out-Expr arg) l.this) operation (plainly alone false) arg args k l h

    pub named_keeps : (operation : Operation) (curried : List (Dynamic H)) (args : List Expr) (captures alone : Bool) (k : List (Frame H))
        (l : Local H) → Calm a k l → Moves a (named_move s operation curried args captures alone k l)
    named_keeps operation [] (arg ∷ args) captures alone k l h =
        captured_keeps (is_captured captures l.scope) alone operation arg args k l h
    named_keeps operation curried args captures alone k l h =
        arguments_keep (ToCall operation curried (plainly alone (is_captured captures l.scope))) [] args k l h

    behind_keeps : (path : Path) (operation : Operation) (args : List Expr) (k : List (Frame H)) (l : Local H) → Calm a k l →
        Moves a (behind_move s path operation args k l)
    behind_keeps path operation [] k l h = arguments_keep (ToCall operation [] (behind_path path)) [] [] k l h
    behind_keeps path operation (arg ∷ args) k l h =
        on_this_keeps (this_in (out-Expr arg) l.this) operation (behind_path path) arg args k l h

    function_keeps : (keyword : Option Keyword) (operation : Operation) (args : List Expr) (captures : Bool) (k : List (Frame H))
        (l : Local H) → Calm a k l → Good a (function_core keyword operation args captures k l)
    function_keeps (Some keyword) operation (arg ∷ args) captures k l h = h
    function_keeps _ operation args captures k l h = h

    function_move_keeps : (is_unqualified : Bool) (call : FnCallExpr) (pos : Position) (k : List (Frame H)) (l : Local H) →
        Calm a k l → Moves a (function_move s is_unqualified call pos k l)
    function_move_keeps true call pos k l h = function_keeps (keyword_of call.op_token call.name (length call.args))
        (operation_in call pos) call.args call.capture_parent_scope k l h
    function_move_keeps false call pos k l h = behind_keeps (path_of call.namespace) (operation_in call pos) call.args k l h

    pub call_keeps : (fast : Bool) (token : Option Token) (call : FnCallExpr) (args : List Expr) (pos : Position) (k : List (Frame H))
        (l : Local H) → Calm a k l → Moves a (call_move s fast token call args pos k l)
    call_keeps true (Some token) call (operand ∷ []) pos k l h = h
    call_keeps true (Some token) call (left ∷ right ∷ []) pos k l h = h
    call_keeps _ _ call args pos k l h = function_move_keeps (is_unqualified call.namespace.path) call pos k l h

    -- ---- the first argument of a keyword

    unlinked_keeps : (of : FnPtrKind H) (pointer : FnPtr H) (pos : Position) (args : List Expr) (captures : Bool) (k : List (Frame H))
        (l : Local H) → Calm a k l → Good a (unlinked_core s of pointer pos args captures k l)
    unlinked_keeps (kind.Native id) pointer pos args captures k l h =
        arguments_keep (ToCallNumber id.number (operation_named (codes "call") pos) (out-FnPtr H pointer).curry) [] args k l h
    unlinked_keeps _ pointer pos args captures k l h = h

    pointer_keeps : (function : Option (Function H)) (pointer : FnPtr H) (pos : Position) (args : List Expr) (captures : Bool)
        (k : List (Frame H)) (l : Local H) → Calm a k l → Good a (pointer_core s function pointer pos args captures k l)
    pointer_keeps (Some f) pointer pos args captures k l h =
        arguments_keep (ToCallFunction f pos (out-FnPtr H pointer).curry) [] args k l h
    pointer_keeps None pointer pos args captures k l h = unlinked_keeps (out-FnPtr H pointer).kind pointer pos args captures k l h

    pub keyword_keeps : (keyword : Keyword) (pos start : Position) (args : List Expr) (captures : Bool) (v : Dynamic H)
        (k : List (Frame H)) (l : Local H) → Calm a k l → Good a (keyword_core s keyword pos start args captures v k l)
    keyword_keeps CallPointer pos start args captures v k l h = on_keeps a (pointer_wanted s.host_type l.around.cells v start) _ k l h
        (λ pointer. pointer_keeps (linked_to pointer (length (out-FnPtr H pointer).curry + length args) l.around.lib) pointer pos args
        captures k l h)
    keyword_keeps MakePointer pos start args captures v k l h =
        on_keeps a (text_wanted s.host_type l.around.cells v start) _ k l h (λ name. ended_keeps a (pointer_of name start) k l h)
    keyword_keeps Curry pos start args captures v k l h = on_keeps a (pointer_wanted s.host_type l.around.cells v start) _ k l h
        (λ pointer. arguments_keep (ToCurry pointer) [] args k l h)
    keyword_keeps IsShared pos start args captures v k l h = h
    keyword_keeps IsDefinedVariable pos start args captures v k l h =
        on_keeps a (text_wanted s.host_type l.around.cells v start) _ k l h (λ name. h)

    -- ---- assignments

    update_keeps : (answer : Answer H) (u : Update H) (k : List (Frame H)) (l : Local H) → Calm a k l →
        Good a (update_core s answer u k l)
    update_keeps (Some r) u k l h = written_keeps (applied s.limits r u.at) u.place k l h
    update_keeps None u k l h = h

    assign_keeps : (op : Option Token) (assignment : Assignment) (there : Target H) (v : Dynamic H) (k : List (Frame H)) (l : Local H) →
        Calm a k l → Good a (assign_core s op assignment there v k l)
    assign_keeps None assignment there v k l h = put_keeps a there.place (with_mode ReadWrite v) k l h
    assign_keeps (Some token) assignment there v k l h =
        update_keeps (if_fast s.offer.fast_operators (op_assign_of token there.value v)) _ k l h

    -- a value is assigned to a target, where one is found
    pub store_keeps : (r : Result (Target H) (EvalAltResult H)) (assignment : Assignment) (v : Dynamic H) (k : List (Frame H))
        (l : Local H) → Calm a k l → Good a (store_core s r assignment v k l)
    store_keeps (Ok there) assignment v k l h = assign_keeps assignment.op.op assignment there v k l h
    store_keeps (Err e) assignment v k l h = h

    change_keeps : (r : Result (Dynamic H) (EvalAltResult H)) (u : Update H) (k : List (Frame H)) (l : Local H) → Calm a k l →
        Good a (changed_core s r u k l)
    change_keeps (Ok v) u k l h = done_keeps (sized s.limits u.target u.target_at) k l h
    change_keeps (Err e) u k l h = h

    fault_keeps : (missing : Bool) (e : EvalAltResult H) (u : Update H) (k : List (Frame H)) (l : Local H) → Calm a k l →
        Good a (fault_core s missing e u k l)
    fault_keeps true e u k l h = h
    fault_keeps false e u k l h = h

    value_keeps : (r : Result (Dynamic H) (EvalAltResult H)) (u : Update H) (k : List (Frame H)) (l : Local H) → Calm a k l →
        Good a (value_core s r u k l)
    value_keeps (Ok v) u k l h = done_keeps (sized s.limits v u.target_at) k (put u.place v l) (put_keeps a u.place v k l h)
    value_keeps (Err e) u k l h = h

    answered_keeps : (attempt : Attempt) (reply : Reply H) (u : Update H) (k : List (Frame H)) (l : Local H) → Calm a k l →
        Good a (answered_core s attempt reply u k l)
    answered_keeps InPlace Missing u k l h =
        update_keeps (op_assign_of u.operator u.target u.operand) (record u { attempt = AsValue }) k l h
    answered_keeps InPlace (Gives v) u k l h = change_keeps (sized s.limits v u.at) u k l h
    answered_keeps InPlace (Faults e) u k l h =
        fault_keeps (says_missing (native_of InPlace u.operator) e) (with_position u.at e) u k l h
    answered_keeps AsValue reply u k l h =
        value_keeps (replied s.limits s.host_type reply (Some u.target) (u.operand ∷ []) (operation_of u) false l.around.cells) u k l h

    lent_keeps : (reply : Reply H) (v : Dynamic H) (u : Update H) (k : List (Frame H)) (l : Local H) → Calm a k l →
        Good a (lent_core s reply v u k l)
    lent_keeps reply v u k l h =
        answered_keeps u.attempt reply (record u { target = v }) k (put u.place v l) (put_keeps a u.place v k l h)

    pub barred_keeps : (barred : Bool) (u : Update H) (k : List (Frame H)) (l : Local H) → Calm a k l →
        Good a (barred_core s barred u k l)
    barred_keeps true u k l h = h
    barred_keeps false u k l h = h

    pub fire_update_keeps : (there : Union H) (u : Update H) (k : List (Frame H)) (l : Local H) → Calm a k l →
        Moves a (fire_update s there u k l)
    fire_update_keeps (value.Cell id) u k l h = h
    fire_update_keeps _ u k l h = λ reply left. lent_keeps reply (target_left u left) u k l h
