-- Under other limits calls and assignments are the same, or one of the two fails.
use Rattle.std.proofs.Common.{refl, inl, ap, subst}
use Rattle.std.specs.Prelude.{◌≡◌, ℕ, pos, if◌then◌else◌}
use Rattle.std.specs.Prelude.{◌+◌, ◌&&◌, length, Bool, true, false, List, [], ◌∷◌, ◌++◌}
use Rattle.std.specs.Prelude.{Option, Some, None, Result, Ok, Err, codes, is_some}
use Rattle.rhai_tree.specs.declared.expr.FnCallExpr.{FnCallExpr}
use Rattle.rhai_tree.specs.Forms.{is_unqualified}
use Rattle.rhai_values.specs.declared.base.value.FnPtr.{out-FnPtr}
use Rattle.rhai_values.specs.declared.base.value.FnPtrKind.{FnPtrKind}
use Rattle.rhai_values.specs.declared.base.value.Union.TheVariants as value
use Rattle.rhai_errors.specs.Native.{Reply, Missing, Gives, Faults}
use Rattle.rhai_operators.specs.Answers.{Answer, op_assign_of}
use Rattle.rhai_machine.specs.language.Setting.{Setting, globals_of}
use Rattle.rhai_machine.specs.language.State.{Local}
use Rattle.rhai_machine.specs.language.Functions.{Function}
use Rattle.rhai_machine.specs.language.Variables.{Path, Variable, path_of, variable_in}
use Rattle.rhai_machine.specs.language.Names.{bound_this}
use Rattle.rhai_machine.specs.language.Places.{Place, Target, is_barred, put}
use Rattle.rhai_machine.specs.language.Frames.{Operation, Dispatch, Call, Keyword, CallPointer, MakePointer, Curry, IsShared}
use Rattle.rhai_machine.specs.language.Frames.{IsDefinedVariable}
use Rattle.rhai_machine.specs.language.Frames.{Purpose, ToCall, ToCallOn, ToCallOnThis, ToCallFunction, ToCallNumber, ToCurry, ToChain}
use Rattle.rhai_machine.specs.language.Frames.{Attempt, InPlace, AsValue, Assignment, Update, Frame, core}
use Rattle.rhai_machine.specs.language.Calls.{First, first_of, put_left, call_native, fire_first, fire_move, barred_call, question_first}
use Rattle.rhai_machine.specs.language.Calls.{question_move, call_of, plainly, answered, behind_path, dispatch_core}
use Rattle.rhai_machine.specs.language.Calls.{operator_core, with_position}
use Rattle.rhai_machine.specs.language.Arguments.{call_on, lent_this, this_in, is_captured, linked_to, arguments_there}
use Rattle.rhai_machine.specs.language.Arguments.{arguments_core, on_variable, on_this, captured_move, named_move, operation_named}
use Rattle.rhai_machine.specs.language.Arguments.{pointer_wanted, unlinked_core, pointer_core, keyword_core}
use Rattle.rhai_machine.specs.language.Arguments.{operation_in, behind_move, function_move}
use Rattle.rhai_machine.specs.language.Expressions.{call_move}
use Rattle.rhai_machine.specs.language.Methods.{Method, method_core}
use Rattle.rhai_machine.specs.language.Assignment.{done, if_fast, says_missing, operation_of}
use Rattle.rhai_machine.specs.language.Assignment.{native_of, target_left, update_core, assign_core, store_core, fault_core}
use Rattle.rhai_machine.specs.language.Assignment.{answered_core, barred_core, fire_update}
use Rattle.rhai_machine.specs.Types.{Dynamic, EvalAltResult, Expr, out-Expr, FnPtr, Limits, Position, Token, Union}
use Rattle.rhai_values.specs.declared.base.value.FnPtrKind.TheOpen as union
use Rattle.rhai_values.specs.declared.base.value.FnPtrKind.TheVariants as kind
use Rattle.rhai_values.specs.Layers.{UnionLayer, layer_of}
use Rattle.rhai_machine.specs.language.State.{Surroundings}
use Rattle.rhai_machine.specs.language.Values.{bool_value, through}
use Rattle.rhai_machine.specs.language.Frames.{Back, ended}
use Rattle.std.specs.Str.{bytes_eq}
use Rattle.rhai_machine.specs.language.Calls.{asks_function, called_core, called_function, dispatch_behind, found_by, races}
use Rattle.rhai_machine.specs.language.Calls.{found_core, knows_asked}
use Rattle.rhai_machine.specs.language.Calls.{knows_function}
use Rattle.rhai_machine.specs.language.Calls.{named_core}
use Rattle.rhai_machine.specs.language.Arguments.{natives_alone}
use Rattle.rhai_machine.specs.language.Assignment.{call_update, question_update}
use Rattle.rhai_machine.specs.language.Methods.{MethodWord, CallWord, CurryWord, SharedWord, PlainWord, argument_at, as_method}
use Rattle.rhai_machine.specs.language.Methods.{call_argument}
use Rattle.rhai_machine.specs.language.Methods.{call_core, copied_before, curry_core, entry_core, on_focus, own_entry, pointer_alone}
use Rattle.rhai_machine.specs.language.Methods.{pointer_on}
use Rattle.rhai_machine.specs.language.Methods.{unlinked_alone, unlinked_on, word_core, word_of}
use Rattle.rhai_limits.specs.OtherLimits.{SameMove, SameOrLimited}
use Rattle.rhai_limits.proofs.OtherSizes.{answered_err, applied_same, as_same, if_same, on_one, on_same, replied_same, sized_same}

module _ {H : Type 0} (s : Setting H) (limits : Limits) where
  abbrev other : Setting H
  other = record s { limits = limits }

  -- ---- calls by name

  found_same : (f : Option (Function H)) (how : Dispatch) (call : Call H) (k : List (Frame H)) (l : Local H) →
      SameOrLimited (found_core s f how call k l) (found_core other f how call k l)
  found_same (Some f) how call k l = inl refl
  found_same None how call k l = inl refl

  found_by_same : (of_method : Bool) (call : Call H) (l : Local H) → found_by s of_method call l ≡ found_by other of_method call l
  found_by_same true call l = refl
  found_by_same false call l = refl

  called_same : (how : Dispatch) (call : Call H) (k : List (Frame H)) (l : Local H) →
      SameOrLimited (called_core s how call k l) (called_core other how call k l)
  called_same how call k l =
      let is : called_function s how call l ≡ called_function other how call l =
      ap (λ f. if how.natives_alone then None else f) (found_by_same how.of_method call l) in
      subst (λ f. SameOrLimited (called_core s how call k l) (found_core other f how call k l)) is
      (found_same (called_function s how call l) how call k l)

  knows_same : (around : Surroundings H) (u w : Union H) → knows_function s around u w ≡ knows_function other around u w
  knows_same around (value.Str name) (value.Int (pos count)) = refl
  knows_same around _ _ = refl

  asked_same : (around : Surroundings H) (r q : Result (Dynamic H) (EvalAltResult H)) →
      knows_asked s around r q ≡ knows_asked other around r q
  asked_same around (Ok name) (Ok count) = knows_same around name.value count.value
  asked_same around _ _ = refl

  named_same : (how : Dispatch) (args : List (Dynamic H)) (call : Call H) (k : List (Frame H)) (l : Local H) →
      SameOrLimited (named_core s how args call k l) (named_core other how args call k l)
  named_same how [] call k l = called_same how call k l
  named_same how (v ∷ []) call k l = if_same (bytes_eq call.operation.name (codes "type_of")) _ _ _ _ (inl refl)
      (if_same (bytes_eq call.operation.name (codes "eval")) _ _ _ _ (inl refl) (called_same how call k l))
  named_same how (v ∷ w ∷ []) call k l = if_same (bytes_eq call.operation.name (codes "is_def_fn")
      && asks_function (through l.around.cells v call.operation.at) (through l.around.cells w call.operation.at)) _ _ _ _
      (inl (ap (λ b. core (Back (bool_value b)) k l) (asked_same l.around (through l.around.cells v call.operation.at)
      (through l.around.cells w call.operation.at)))) (called_same how call k l)
  named_same how (v ∷ w ∷ x ∷ args) call k l = called_same how call k l

  dispatch_behind_same : (path : List (List ℕ)) (how : Dispatch) (call : Call H) (k : List (Frame H)) (l : Local H) →
      SameOrLimited (dispatch_behind s path how call k l) (dispatch_behind other path how call k l)
  dispatch_behind_same [] how call k l = if_same (races l.around.cells call.args) _ _ _ _ (inl refl)
      (named_same how call.args call k l)
  dispatch_behind_same (root ∷ path) how call k l = inl refl

  pub dispatch_same : (how : Dispatch) (call : Call H) (k : List (Frame H)) (l : Local H) →
      SameOrLimited (dispatch_core s how call k l) (dispatch_core other how call k l)
  dispatch_same how call k l = dispatch_behind_same how.path.names how call k l

  pub operator_same : (builtin : Option (Result (Dynamic H) (EvalAltResult H))) (call : Call H) (k : List (Frame H)) (l : Local H) →
      SameOrLimited (operator_core s builtin call k l) (operator_core other builtin call k l)
  operator_same (Some r) call k l = as_same ended (λ e. refl) _ _ (applied_same s.limits limits r call.operation.at) k l
  operator_same None call k l = dispatch_same (plainly false false) call k l

  -- ---- natives

  barred_same : (barred pure : Bool) (call : Call H) (k : List (Frame H)) (l : Local H) →
      SameOrLimited (barred_call s barred pure call k l) (barred_call other barred pure call k l)
  barred_same true pure call k l = inl refl
  barred_same false pure call k l = inl refl

  question_first_same : (call : Call H) (rest : List (Dynamic H)) (r : Result (First H) (EvalAltResult H)) (k : List (Frame H))
      (l : Local H) → SameMove (question_first s call rest r k l) (question_first other call rest r k l)
  question_first_same call rest (Ok first) k l =
      (refl, λ pure. barred_same (call.guarded && is_barred pure first.value) pure call k l)
  question_first_same call rest (Err e) k l = inl refl

  pub question_same : (call : Call H) (args : List (Dynamic H)) (k : List (Frame H)) (l : Local H) →
      SameMove (question_move s call args k l) (question_move other call args k l)
  question_same call [] k l = (refl, λ pure. inl refl)
  question_same call (x ∷ rest) k l = question_first_same call rest (first_of l.around.cells call x) k l

  native_same : (call : Call H) (from : Option Place) (first : Option (Dynamic H)) (rest : List (Dynamic H)) (k : List (Frame H))
      (l : Local H) → SameMove (call_native s call from first rest k l) (call_native other call from first rest k l)
  native_same call from first rest k l = (
    refl,
    λ reply left. as_same (answered call.marks reply) (answered_err call.marks reply) _ _
        (replied_same s.limits limits s.host_type reply left rest call.operation (is_some call.number)
        (put_left from left l).around.cells) k
        (put_left from left l),
  )

  fire_first_same : (call : Call H) (rest : List (Dynamic H)) (r : Result (First H) (EvalAltResult H)) (k : List (Frame H))
      (l : Local H) → SameMove (fire_first s call rest r k l) (fire_first other call rest r k l)
  fire_first_same call rest (Ok first) k l = native_same call first.from (Some first.value) rest k l
  fire_first_same call rest (Err e) k l = inl refl

  pub fire_same : (call : Call H) (args : List (Dynamic H)) (k : List (Frame H)) (l : Local H) →
      SameMove (fire_move s call args k l) (fire_move other call args k l)
  fire_same call [] k l = native_same call None None [] k l
  fire_same call (x ∷ rest) k l = fire_first_same call rest (first_of l.around.cells call x) k l

  -- ---- arguments

  there_args_same : (purpose : Purpose H) (args : List (Dynamic H)) (k : List (Frame H)) (l : Local H) →
      SameOrLimited (arguments_there s purpose args k l) (arguments_there other purpose args k l)
  there_args_same (ToCall operation curried how) args k l = dispatch_same how (call_of operation (curried ++ args)) k l
  there_args_same (ToCallOn operation variable how) args k l =
      on_one (call_on (globals_of s.offer) l.around l.scope operation variable args) _ _ (λ call. dispatch_same how call k l) k l
  there_args_same (ToCallOnThis operation this_at how) args k l =
      on_one (bound_this this_at l.this) _ _ (λ v. dispatch_same how (lent_this operation args v) k l) k l
  there_args_same (ToChain chain (Some rest)) args k l = inl refl
  there_args_same (ToChain chain None) args k l = inl refl
  there_args_same _ args k l = inl refl

  pub arguments_same : (purpose : Purpose H) (made : List (Dynamic H)) (args : List Expr) (k : List (Frame H)) (l : Local H) →
      SameOrLimited (arguments_core s purpose made args k l) (arguments_core other purpose made args k l)
  arguments_same purpose made [] k l = there_args_same purpose made k l
  arguments_same purpose made (arg ∷ args) k l = inl refl

  -- ---- calls as they are written

  on_variable_same : (variable : Option Variable) (operation : Operation) (how : Dispatch) (arg : Expr) (args : List Expr)
      (k : List (Frame H)) (l : Local H) →
      SameMove (on_variable s variable operation how arg args k l) (on_variable other variable operation how arg args k l)
  on_variable_same (Some variable) operation how arg args k l = (refl, arguments_same (ToCallOn operation variable how) [] args k l)
  on_variable_same None operation how arg args k l = arguments_same (ToCall operation [] how) [] (arg ∷ args) k l

  on_this_same : (there : Option Position) (operation : Operation) (how : Dispatch) (arg : Expr) (args : List Expr)
      (k : List (Frame H)) (l : Local H) →
      SameMove (on_this s there operation how arg args k l) (on_this other there operation how arg args k l)
  on_this_same (Some at) operation how arg args k l = (refl, arguments_same (ToCallOnThis operation at how) [] args k l)
  on_this_same None operation how arg args k l = on_variable_same (variable_in (out-Expr arg)) operation how arg args k l

  captured_same : (captured alone : Bool) (operation : Operation) (arg : Expr) (args : List Expr) (k : List (Frame H)) (l : Local H) →
      SameMove (captured_move s captured alone operation arg args k l) (captured_move other captured alone operation arg args k l)
  captured_same true alone operation arg args k l = arguments_same (ToCall operation [] (plainly alone true)) [] (arg ∷ args) k l
  captured_same false alone operation arg args k l =
      on_this_same (this_in (out-Expr arg) l.this) operation (plainly alone false) arg args k l

  pub named_move_same : (operation : Operation) (curried : List (Dynamic H)) (args : List Expr) (captures alone : Bool)
      (k : List (Frame H)) (l : Local H) →
      SameMove (named_move s operation curried args captures alone k l) (named_move other operation curried args captures alone k l)
  named_move_same operation [] (arg ∷ args) captures alone k l =
      captured_same (is_captured captures l.scope) alone operation arg args k l
  named_move_same operation curried args captures alone k l =
      arguments_same (ToCall operation curried (plainly alone (is_captured captures l.scope))) [] args k l

  behind_move_same : (path : Path) (operation : Operation) (args : List Expr) (k : List (Frame H)) (l : Local H) →
      SameMove (behind_move s path operation args k l) (behind_move other path operation args k l)
  behind_move_same path operation [] k l = arguments_same (ToCall operation [] (behind_path path)) [] [] k l
  behind_move_same path operation (arg ∷ args) k l =
      on_this_same (this_in (out-Expr arg) l.this) operation (behind_path path) arg args k l

  function_same : (is_unqualified : Bool) (call : FnCallExpr) (at : Position) (k : List (Frame H)) (l : Local H) →
      SameMove (function_move s is_unqualified call at k l) (function_move other is_unqualified call at k l)
  function_same true call at k l = inl refl
  function_same false call at k l = behind_move_same (path_of call.namespace) (operation_in call at) call.args k l

  pub call_same : (fast : Bool) (token : Option Token) (call : FnCallExpr) (args : List Expr) (at : Position) (k : List (Frame H))
      (l : Local H) → SameMove (call_move s fast token call args at k l) (call_move other fast token call args at k l)
  call_same true (Some token) call (operand ∷ []) at k l = inl refl
  call_same true (Some token) call (left ∷ right ∷ []) at k l = inl refl
  call_same _ _ call args at k l = function_same (is_unqualified call.namespace.path) call at k l

  -- ---- the first argument of a keyword

  unlinked_same : (of : FnPtrKind H) (pointer : FnPtr H) (at : Position) (args : List Expr) (captures : Bool) (k : List (Frame H))
      (l : Local H) →
      SameOrLimited (unlinked_core s of pointer at args captures k l) (unlinked_core other of pointer at args captures k l)
  unlinked_same (kind.Native id) pointer at args captures k l =
      arguments_same (ToCallNumber id.number (operation_named (codes "call") at) (out-FnPtr H pointer).curry) [] args k l
  unlinked_same _ pointer at args captures k l = inl refl

  pointer_same : (function : Option (Function H)) (pointer : FnPtr H) (at : Position) (args : List Expr) (captures : Bool)
      (k : List (Frame H)) (l : Local H) →
      SameOrLimited (pointer_core s function pointer at args captures k l) (pointer_core other function pointer at args captures k l)
  pointer_same (Some f) pointer at args captures k l =
      arguments_same (ToCallFunction f at (out-FnPtr H pointer).curry) [] args k l
  pointer_same None pointer at args captures k l = unlinked_same (out-FnPtr H pointer).kind pointer at args captures k l

  pub keyword_same : (keyword : Keyword) (at start : Position) (args : List Expr) (captures : Bool) (v : Dynamic H)
      (k : List (Frame H)) (l : Local H) →
      SameOrLimited (keyword_core s keyword at start args captures v k l) (keyword_core other keyword at start args captures v k l)
  keyword_same CallPointer at start args captures v k l = on_one (pointer_wanted s.host_type l.around.cells v start) _ _
      (λ pointer. pointer_same (linked_to pointer (length (out-FnPtr H pointer).curry + length args) l.around.lib) pointer at args
      captures k l) k l
  keyword_same MakePointer at start args captures v k l = inl refl
  keyword_same Curry at start args captures v k l = on_one (pointer_wanted s.host_type l.around.cells v start) _ _
      (λ pointer. arguments_same (ToCurry pointer) [] args k l) k l
  keyword_same IsShared at start args captures v k l = inl refl
  keyword_same IsDefinedVariable at start args captures v k l = inl refl

  -- ---- assignments

  update_same : (answer : Answer H) (u : Update H) (k : List (Frame H)) (l : Local H) →
      SameOrLimited (update_core s answer u k l) (update_core other answer u k l)
  update_same (Some r) u k l = on_same _ _ (applied_same s.limits limits r u.at) _ _ (λ v. inl refl) k l
  update_same None u k l = inl refl

  assign_same : (op : Option Token) (assignment : Assignment) (target : Target H) (v : Dynamic H) (k : List (Frame H)) (l : Local H) →
      SameOrLimited (assign_core s op assignment target v k l) (assign_core other op assignment target v k l)
  assign_same None assignment target v k l = inl refl
  assign_same (Some token) assignment target v k l =
      update_same (if_fast s.offer.fast_operators (op_assign_of token target.value v)) _ k l

  pub store_same : (r : Result (Target H) (EvalAltResult H)) (assignment : Assignment) (v : Dynamic H) (k : List (Frame H))
      (l : Local H) → SameOrLimited (store_core s r assignment v k l) (store_core other r assignment v k l)
  store_same r assignment v k l = on_one r _ _ (λ target. assign_same assignment.op.op assignment target v k l) k l

  barred_update_same : (barred : Bool) (u : Update H) (k : List (Frame H)) (l : Local H) →
      SameOrLimited (barred_core s barred u k l) (barred_core other barred u k l)
  barred_update_same true u k l = inl refl
  barred_update_same false u k l = inl refl

  pub question_update_same : (u : Update H) (k : List (Frame H)) (l : Local H) →
      SameMove (question_update s u k l) (question_update other u k l)
  question_update_same u k l = (refl, λ pure. barred_update_same (is_barred pure u.target) u k l)

  fault_same : (missing : Bool) (e : EvalAltResult H) (u : Update H) (k : List (Frame H)) (l : Local H) →
      SameOrLimited (fault_core s missing e u k l) (fault_core other missing e u k l)
  fault_same true e u k l = inl refl
  fault_same false e u k l = inl refl

  answered_same : (attempt : Attempt) (reply : Reply H) (u : Update H) (k : List (Frame H)) (l : Local H) →
      SameOrLimited (answered_core s attempt reply u k l) (answered_core other attempt reply u k l)
  answered_same InPlace Missing u k l =
      update_same (op_assign_of u.operator u.target u.operand) (record u { attempt = AsValue }) k l
  answered_same InPlace (Gives v) u k l = on_same _ _ (sized_same s.limits limits v u.at) _ _
      (λ w. as_same done (λ e. refl) _ _ (sized_same s.limits limits u.target u.target_at) k l) k l
  answered_same InPlace (Faults e) u k l = fault_same (says_missing (native_of InPlace u.operator) e) (with_position u.at e) u k l
  answered_same AsValue reply u k l = on_same _ _
      (replied_same s.limits limits s.host_type reply (Some u.target) (u.operand ∷ []) (operation_of u) false l.around.cells) _ _
      (λ v. as_same done (λ e. refl) _ _ (sized_same s.limits limits v u.target_at) k (put u.place v l)) k l

  update_call_same : (u : Update H) (k : List (Frame H)) (l : Local H) → SameMove (call_update s u k l) (call_update other u k l)
  update_call_same u k l = (
    refl,
    λ reply left.
        answered_same u.attempt reply (record u { target = target_left u left }) k (put u.place (target_left u left) l),
  )

  pub fire_update_same : (v : Union H) (u : Update H) (k : List (Frame H)) (l : Local H) →
      SameMove (fire_update s v u k l) (fire_update other v u k l)
  fire_update_same (value.Cell id) u k l = inl refl
  fire_update_same _ u k l = update_call_same u k l

  -- ---- methods

  unlinked_on_same : (of : FnPtrKind H) (pointer : FnPtr H) (method : Method) (called : List ℕ) (args : List (Dynamic H))
      (focus : Dynamic H) (k : List (Frame H)) (l : Local H) →
      SameOrLimited (unlinked_on s of pointer method called args focus k l) (unlinked_on other of pointer method called args focus k l)
  unlinked_on_same (kind.Native id) pointer method called args focus k l = inl refl
  unlinked_on_same _ pointer method called args focus k l = dispatch_same (as_method (natives_alone (out-FnPtr H pointer).name))
      (on_focus (operation_named (out-FnPtr H pointer).name method.at) args focus) k l

  pointer_on_same : (function : Option (Function H)) (pointer : FnPtr H) (method : Method) (called : List ℕ) (args : List (Dynamic H))
      (focus : Dynamic H) (k : List (Frame H)) (l : Local H) → SameOrLimited (pointer_on s function pointer method called args focus k l)
      (pointer_on other function pointer method called args focus k l)
  pointer_on_same (Some f) pointer method called args focus k l = inl refl
  pointer_on_same None pointer method called args focus k l =
      unlinked_on_same (out-FnPtr H pointer).kind pointer method called args focus k l

  unlinked_alone_same : (of : FnPtrKind H) (pointer : FnPtr H) (at : Position) (args : List (Dynamic H)) (k : List (Frame H))
      (l : Local H) →
      SameOrLimited (unlinked_alone s of pointer at args k l) (unlinked_alone other of pointer at args k l)
  unlinked_alone_same (kind.Native id) pointer at args k l = inl refl
  unlinked_alone_same _ pointer at args k l = dispatch_same (plainly (natives_alone (out-FnPtr H pointer).name) false)
      (record (call_of (operation_named (out-FnPtr H pointer).name at) args) { marks = true }) k l

  pointer_alone_same : (function : Option (Function H)) (pointer : FnPtr H) (at : Position) (args : List (Dynamic H))
      (k : List (Frame H)) (l : Local H) →
      SameOrLimited (pointer_alone s function pointer at args k l) (pointer_alone other function pointer at args k l)
  pointer_alone_same (Some f) pointer at args k l = inl refl
  pointer_alone_same None pointer at args k l = unlinked_alone_same (out-FnPtr H pointer).kind pointer at args k l

  call_argument_same : (method : Method) (args : List (Dynamic H)) (seen focus : Dynamic H) (k : List (Frame H)) (l : Local H) →
      SameOrLimited (call_argument s method args seen focus k l) (call_argument other method args seen focus k l)
  call_argument_same method [] seen focus k l = inl refl
  call_argument_same method (first ∷ rest) seen focus k l =
      on_one (pointer_wanted s.host_type l.around.cells first (argument_at method)) _ _
      (λ pointer. pointer_on_same (linked_to pointer (length ((out-FnPtr H pointer).curry ++ rest)) l.around.lib) pointer method
      (codes "call") ((out-FnPtr H pointer).curry ++ rest) focus k l) k l

  call_word_same : (v : UnionLayer H) (method : Method) (args : List (Dynamic H)) (seen focus : Dynamic H) (k : List (Frame H))
      (l : Local H) → SameOrLimited (call_core s v method args seen focus k l) (call_core other v method args seen focus k l)
  call_word_same (union.FnPtr pointer) method args seen focus k l = pointer_alone_same
      (linked_to pointer (length (copied_before pointer args)) l.around.lib) pointer method.at (copied_before pointer args) k l
  call_word_same _ method args seen focus k l = call_argument_same method args seen focus k l

  curry_same : (v : UnionLayer H) (at : Position) (args : List (Dynamic H)) (seen : Dynamic H) (k : List (Frame H)) (l : Local H) →
      SameOrLimited (curry_core s v at args seen k l) (curry_core other v at args seen k l)
  curry_same (union.FnPtr pointer) at args seen k l = inl refl
  curry_same _ at args seen k l = inl refl

  entry_same : (own : Option (FnPtr H)) (method : Method) (args : List (Dynamic H)) (focus : Dynamic H) (k : List (Frame H))
      (l : Local H) →
      SameOrLimited (entry_core s own method args focus k l) (entry_core other own method args focus k l)
  entry_same (Some pointer) method args focus k l = pointer_on_same
      (linked_to pointer (length (copied_before pointer args)) l.around.lib) pointer method (out-FnPtr H pointer).name
      (copied_before pointer args) focus k l
  entry_same None method args focus k l =
      dispatch_same (as_method false) (on_focus (operation_named method.name method.at) args focus) k l

  word_same : (word : MethodWord) (method : Method) (args : List (Dynamic H)) (focus : Dynamic H) (k : List (Frame H)) (l : Local H) →
      SameOrLimited (word_core s word method args focus k l) (word_core other word method args focus k l)
  word_same CallWord method args focus k l = on_one (through l.around.cells focus method.at) _ _
      (λ seen. call_word_same (layer_of seen) method args seen focus k l) k l
  word_same CurryWord method args focus k l = on_one (through l.around.cells focus method.at) _ _
      (λ seen. curry_same (layer_of seen) method.at args seen k l) k l
  word_same SharedWord method args focus k l = inl refl
  word_same PlainWord method args focus k l = on_one (own_entry l.around.cells method focus) _ _
      (λ own. entry_same own method args focus k l) k l

  pub method_same : (method : Method) (args : List (Dynamic H)) (focus : Dynamic H) (k : List (Frame H)) (l : Local H) →
      SameOrLimited (method_core s method args focus k l) (method_core other method args focus k l)
  method_same method args focus k l = word_same (word_of method.name (length args)) method args focus k l
