-- The moves of calls make a core smaller.
use Rattle.std.proofs.Common.{arith}
use Rattle.std.specs.Prelude.{◌<◌, ◌≤◌, ◌+◌, length, ◌&&◌, Bool, true, false, List, [], ◌∷◌, ◌++◌, Option, Some, None}
use Rattle.std.specs.Prelude.{Result, Ok, Err, codes, is_some}
use Rattle.rhai_tree.specs.declared.position.Position.{Position}
use Rattle.rhai_tree.specs.declared.expr.Expr.{Expr, out-Expr}
use Rattle.rhai_values.specs.declared.base.value.Dynamic.{Dynamic}
use Rattle.rhai_values.specs.declared.base.value.FnPtr.{FnPtr, out-FnPtr}
use Rattle.rhai_values.specs.declared.base.value.FnPtrKind.{FnPtrKind}
use Rattle.rhai_values.specs.declared.base.value.FnPtrKind.TheVariants as kind
use Rattle.rhai_errors.specs.declared.error.EvalAltResult.{EvalAltResult}
use Rattle.rhai_machine.specs.machine.Settling.{Falls}
use Rattle.rhai_machine.specs.language.Setting.{Setting, globals_of}
use Rattle.rhai_machine.specs.language.State.{Local}
use Rattle.rhai_machine.specs.language.Functions.{Function}
use Rattle.rhai_machine.specs.language.Activations.{NoThis}
use Rattle.rhai_machine.specs.language.Variables.{Path, Variable, variable_in}
use Rattle.rhai_machine.specs.language.Names.{bound_this}
use Rattle.rhai_machine.specs.language.Frames.{Operation, Dispatch, Call, Core, Frame, core, CallNamed, Question, Fire, Purpose, ToCall}
use Rattle.rhai_machine.specs.language.Frames.{ToCallOn, ToCallOnThis, ToCallNumber, ToCallFunction, ToCurry, Keyword, CallPointer}
use Rattle.rhai_machine.specs.language.Frames.{MakePointer, Curry, IsShared}
use Rattle.rhai_machine.specs.language.Frames.{IsDefinedVariable, ToChain}
use Rattle.rhai_machine.specs.language.Places.{Place, is_barred}
use Rattle.rhai_machine.specs.language.Calls.{operator_core, behind_path, call_of, plainly, races, dispatch_core, fire_first}
use Rattle.rhai_machine.specs.language.Calls.{fire_move, First}
use Rattle.rhai_machine.specs.language.Calls.{first_of, put_left, barred_call, question_first, question_move, call_native}
use Rattle.rhai_machine.specs.language.Calls.{replied, applied}
use Rattle.rhai_machine.specs.language.Arguments.{call_on, lent_this, this_in, is_captured, linked_core, linked_to, numbered_core}
use Rattle.rhai_machine.specs.language.Arguments.{arguments_there, arguments_core, on_variable, on_this, captured_move}
use Rattle.rhai_machine.specs.language.Arguments.{named_move, operation_named, pointer_of, pointer_wanted, text_wanted, unlinked_core}
use Rattle.rhai_machine.specs.language.Arguments.{pointer_core, keyword_core, behind_move}
use Rattle.rhai_machine.specs.language.Methods.{Method, method_core}
use Rattle.rhai_machine.proofs.MethodLaws.{dispatch_ends, method_ends}
use Rattle.rhai_machine.proofs.Sizes.{purpose_size, stack_size, size, result_falls, reply_falls, on_below, wider_falls, if_falls}

module _ {H : Type 0} where
  module _ (s : Setting H) where
    -- a native's reply comes back
    native_falls : (call : Call H) (from : Option Place) (first : Option (Dynamic H)) (rest : List (Dynamic H)) (k : List (Frame H))
        (l : Local H) →
        Falls size (core (Fire call) k l) (call_native s call from first rest k l)
    native_falls call from first rest k l reply left = reply_falls call.marks reply
        (replied s.limits s.host_type reply left rest call.operation (is_some call.number) (put_left from left l).around.cells)
        (12 + stack_size k)
        (stack_size k) (omega arith)

    fire_first_falls : (call : Call H) (rest : List (Dynamic H)) (r : Result (First H) (EvalAltResult H)) (k : List (Frame H))
        (l : Local H) →
        Falls size (core (Fire call) k l) (fire_first s call rest r k l)
    fire_first_falls call rest (Ok first) k l = native_falls call first.from (Some first.value) rest k l
    fire_first_falls call rest (Err e) k l = omega arith

    pub fire_falls : (call : Call H) (args : List (Dynamic H)) (k : List (Frame H)) (l : Local H) →
        Falls size (core (Fire call) k l) (fire_move s call args k l)
    fire_falls call [] k l = native_falls call None None [] k l
    fire_falls call (x ∷ rest) k l = fire_first_falls call rest (first_of l.around.cells call x) k l

    barred_call_falls : (barred pure : Bool) (call : Call H) (k : List (Frame H)) (l : Local H) →
        size (barred_call s barred pure call k l) < 13 + stack_size k
    barred_call_falls true pure call k l = omega arith
    barred_call_falls false pure call k l = omega arith

    question_first_falls : (call : Call H) (rest : List (Dynamic H)) (r : Result (First H) (EvalAltResult H)) (k : List (Frame H))
        (l : Local H) →
        Falls size (core (Question call) k l) (question_first s call rest r k l)
    question_first_falls call rest (Ok first) k l =
        λ pure. barred_call_falls (call.guarded && is_barred pure first.value) pure call k l
    question_first_falls call rest (Err e) k l = omega arith

    pub question_falls : (call : Call H) (args : List (Dynamic H)) (k : List (Frame H)) (l : Local H) →
        Falls size (core (Question call) k l) (question_move s call args k l)
    question_falls call [] k l = λ pure. omega arith
    question_falls call (x ∷ rest) k l = question_first_falls call rest (first_of l.around.cells call x) k l

    dispatch_falls : (how : Dispatch) (call : Call H) (k : List (Frame H)) (l : Local H) →
        size (dispatch_core s how call k l) < 12 + stack_size k
    dispatch_falls how call k l = dispatch_ends k l (λ c. size c < 12 + stack_size k) (record {
      fails = λ e. omega arith;
      backs = λ v. omega arith;
      asks = λ call. omega arith;
      enters = λ f object is_fresh args at. omega arith;
    }) s how call

    pub operator_falls : (builtin : Option (Result (Dynamic H) (EvalAltResult H))) (call : Call H) (k : List (Frame H)) (l : Local H) →
        size (operator_core s builtin call k l) < 12 + stack_size k
    operator_falls (Some r) call k l = result_falls (applied s.limits r call.operation.at) (12 + stack_size k) (stack_size k) (omega arith)
    operator_falls None call k l = dispatch_falls (plainly false false) call k l

    -- the arguments of a call, and what is done once they are there
    numbered_falls : (call : Call H) (k : List (Frame H)) (l : Local H) → size (numbered_core call k l) < 14 + stack_size k
    numbered_falls call k l = if_falls (races l.around.cells call.args) _ _ (14 + stack_size k) (omega arith) (omega arith)

    linked_falls : (function : Function H) (at : Position) (args : List (Dynamic H)) (k : List (Frame H)) (l : Local H) →
        size (linked_core function NoThis at args k l) < 14 + stack_size k
    linked_falls function at args k l = if_falls (races l.around.cells args) _ _ (14 + stack_size k) (omega arith) (omega arith)

    there_size : (purpose : Purpose H) (args : List (Dynamic H)) (k : List (Frame H)) (l : Local H) →
        size (arguments_there s purpose args k l) < 14 + (purpose_size purpose + stack_size k)
    there_size (ToCall operation curried how) args k l = omega (arith, dispatch_falls how (call_of operation (curried ++ args)) k l)
    there_size (ToCallOn operation variable how) args k l = omega (
      arith,
      on_below (call_on (globals_of s.offer) l.around l.scope operation variable args) (λ call. dispatch_core s how call k l) k l
          (12 + stack_size k) (omega arith) (λ call. dispatch_falls how call k l),
    )
    there_size (ToCallOnThis operation this_at how) args k l = omega (
      arith,
      on_below (bound_this this_at l.this) (λ v. dispatch_core s how (lent_this operation args v) k l) k l (12 + stack_size k)
          (omega arith) (λ v. dispatch_falls how (lent_this operation args v) k l),
    )
    there_size (ToCallFunction function at curried) args k l = omega (arith, linked_falls function at (curried ++ args) k l)
    there_size (ToCallNumber number operation curried) args k l =
        omega (arith, numbered_falls (record (call_of operation (curried ++ args)) { number = Some number }) k l)
    there_size (ToCurry pointer) args k l = omega arith
    there_size (ToChain chain (Some rest)) args k l = omega arith
    there_size (ToChain chain None) args k l = omega arith

    pub arguments_fall : (purpose : Purpose H) (made : List (Dynamic H)) (args : List Expr) (k : List (Frame H)) (l : Local H) →
        size (arguments_core s purpose made args k l) < 14 + (purpose_size purpose + stack_size k)
    arguments_fall purpose made [] k l = there_size purpose made k l
    arguments_fall purpose made (arg ∷ args) k l = omega arith

    variable_falls : (variable : Option Variable) (operation : Operation) (how : Dispatch) (arg : Expr) (args : List Expr) (c : Core H)
        (k : List (Frame H)) (l : Local H) → 14 + stack_size k ≤ size c → Falls size c (on_variable s variable operation how arg args k l)
    variable_falls (Some variable) operation how arg args c k l room = tt
    variable_falls None operation how arg args c k l room =
        omega (arith, room, arguments_fall (ToCall operation [] how) [] (arg ∷ args) k l)

    this_falls : (there : Option Position) (operation : Operation) (how : Dispatch) (arg : Expr) (args : List Expr) (c : Core H)
        (k : List (Frame H)) (l : Local H) → 14 + stack_size k ≤ size c → Falls size c (on_this s there operation how arg args k l)
    this_falls (Some at) operation how arg args c k l room = tt
    this_falls None operation how arg args c k l room = variable_falls (variable_in (out-Expr arg)) operation how arg args c k l room

    -- a call behind a path
    pub behind_falls : (path : Path) (operation : Operation) (args : List Expr) (c : Core H) (k : List (Frame H)) (l : Local H) →
        14 + stack_size k ≤ size c → Falls size c (behind_move s path operation args k l)
    behind_falls path operation [] c k l room = omega (arith, room, arguments_fall (ToCall operation [] (behind_path path)) [] [] k l)
    behind_falls path operation (arg ∷ args) c k l room =
        this_falls (this_in (out-Expr arg) l.this) operation (behind_path path) arg args c k l room

    captured_falls : (captured : Bool) (operation : Operation) (arg : Expr) (args : List Expr) (curried : List (Dynamic H))
        (captures alone : Bool) (k : List (Frame H)) (l : Local H) →
        Falls size (core (CallNamed operation curried (arg ∷ args) captures alone) k l)
        (captured_move s captured alone operation arg args k l)
    captured_falls true operation arg args curried captures alone k l =
        omega (arith, arguments_fall (ToCall operation [] (plainly alone true)) [] (arg ∷ args) k l)
    captured_falls false operation arg args curried captures alone k l =
        this_falls (this_in (out-Expr arg) l.this) operation (plainly alone false) arg args
        (core (CallNamed operation curried (arg ∷ args) captures alone) k l) k l (omega arith)

    pub named_call_falls : (operation : Operation) (curried : List (Dynamic H)) (args : List Expr) (captures alone : Bool)
        (k : List (Frame H)) (l : Local H) →
        Falls size (core (CallNamed operation curried args captures alone) k l) (named_move s operation curried args captures alone k l)
    named_call_falls operation [] (arg ∷ args) captures alone k l =
        captured_falls (is_captured captures l.scope) operation arg args [] captures alone k l
    named_call_falls operation [] [] captures alone k l =
        omega (arith, arguments_fall (ToCall operation [] (plainly alone (is_captured captures l.scope))) [] [] k l)
    named_call_falls operation (v ∷ curried) args captures alone k l =
        omega (arith, arguments_fall (ToCall operation (v ∷ curried) (plainly alone (is_captured captures l.scope))) [] args k l)

    -- the first argument of a keyword
    unlinked_falls : (of : FnPtrKind H) (pointer : FnPtr H) (at : Position) (args : List Expr) (captures : Bool) (k : List (Frame H))
        (l : Local H) →
        size (unlinked_core s of pointer at args captures k l) < 16 + stack_size k
    unlinked_falls (kind.Native id) pointer at args captures k l = omega (
      arith,
      arguments_fall (ToCallNumber id.number (operation_named (codes "call") at) (out-FnPtr H pointer).curry) [] args k l,
    )
    unlinked_falls _ pointer at args captures k l = omega arith

    pointer_falls : (function : Option (Function H)) (pointer : FnPtr H) (at : Position) (args : List Expr) (captures : Bool)
        (k : List (Frame H)) (l : Local H) →
        size (pointer_core s function pointer at args captures k l) < 16 + stack_size k
    pointer_falls (Some f) pointer at args captures k l =
        omega (arith, arguments_fall (ToCallFunction f at (out-FnPtr H pointer).curry) [] args k l)
    pointer_falls None pointer at args captures k l = unlinked_falls (out-FnPtr H pointer).kind pointer at args captures k l

    pub keyword_falls : (keyword : Keyword) (at start : Position) (args : List Expr) (captures : Bool) (v : Dynamic H) (k : List (Frame H))
        (l : Local H) →
        size (keyword_core s keyword at start args captures v k l) < 16 + stack_size k
    keyword_falls CallPointer at start args captures v k l = wider_falls (pointer_wanted s.host_type l.around.cells v start) _ k l
        (λ pointer. pointer_falls (linked_to pointer (length (out-FnPtr H pointer).curry + length args) l.around.lib) pointer at args
        captures k l)
    keyword_falls MakePointer at start args captures v k l = wider_falls (text_wanted s.host_type l.around.cells v start) _ k l
        (λ name. result_falls (pointer_of name start) (16 + stack_size k) (stack_size k) (omega arith))
    keyword_falls Curry at start args captures v k l = wider_falls (pointer_wanted s.host_type l.around.cells v start) _ k l
        (λ pointer. omega (arith, arguments_fall (ToCurry pointer) [] args k l))
    keyword_falls IsShared at start args captures v k l = omega arith
    keyword_falls IsDefinedVariable at start args captures v k l =
        wider_falls (text_wanted s.host_type l.around.cells v start) _ k l (λ name. omega arith)

    -- a method on the focus leads at most to the question whether a native is pure
    pub method_falls : (method : Method) (args : List (Dynamic H)) (focus : Dynamic H) (k : List (Frame H)) (l : Local H) →
        size (method_core s method args focus k l) ≤ 13 + stack_size k
    method_falls method args focus k l = method_ends s k l (λ c. size c ≤ 13 + stack_size k) (record {
      dispatched = record {
        fails = λ e. omega arith;
        backs = λ v. omega arith;
        asks = λ call. omega arith;
        enters = λ f object is_fresh args at. omega arith;
      };
      questions = λ call. omega arith;
    }) method args focus
