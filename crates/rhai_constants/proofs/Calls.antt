-- What the rules of calls keep: a constant is lent to no native, but as `this` and as the focus of a chain.
use Rattle.std.proofs.Common.{refl, ap, subst}
use Rattle.std.specs.Prelude.{◌≡◌, ℕ, ◌+◌, length, ◌&&◌, Bool, true, false, List, [], ◌∷◌, ◌++◌, Option, Some, None, Result}
use Rattle.std.specs.Prelude.{Ok, Err, codes, if◌then◌else◌}
use Rattle.rhai_tree.specs.declared.position.Position.{Position}
use Rattle.rhai_tree.specs.declared.token.Token.{Token}
use Rattle.rhai_tree.specs.declared.expr.Expr.{Expr, out-Expr}
use Rattle.rhai_tree.specs.declared.expr.FnCallExpr.{FnCallExpr}
use Rattle.rhai_tree.specs.Layers.{ExprLayer}
use Rattle.rhai_tree.specs.Forms.{is_unqualified}
use Rattle.rhai_values.specs.declared.base.value.Dynamic.{Dynamic}
use Rattle.rhai_values.specs.declared.base.value.Union.{Union}
use Rattle.rhai_values.specs.declared.base.value.Union.TheVariants as value
use Rattle.rhai_values.specs.declared.base.value.FnPtr.{FnPtr, out-FnPtr}
use Rattle.rhai_values.specs.declared.base.value.FnPtrKind.{FnPtrKind}
use Rattle.rhai_values.specs.declared.base.value.FnPtrKind.TheVariants as kind
use Rattle.rhai_values.specs.Copy.{copy_of}
use Rattle.rhai_errors.specs.declared.error.EvalAltResult.{EvalAltResult}
use Rattle.rhai_machine.specs.language.Setting.{Globals, Setting, globals_of}
use Rattle.rhai_machine.specs.language.State.{Local}
use Rattle.rhai_functions.specs.declared.function.Function.{Function}
use Rattle.rhai_machine.specs.language.Variables.{Path, Variable, path_of, variable_in}
use Rattle.rhai_machine.specs.language.Activations.{ThisFrom, NoThis}
use Rattle.rhai_machine.specs.language.Names.{Meaning, AtEntry, AsTemporary, bound_this, meant}
use Rattle.rhai_machine.specs.language.Frames.{Operation, Dispatch, Call, Frame, Core, core}
use Rattle.rhai_machine.specs.language.Frames.{changed, on_value, CallNamed, OpenExpr}
use Rattle.rhai_errors.specs.Native.{Reply, Missing, Gives, Faults}
use Rattle.rhai_machine.specs.language.Frames.{Purpose, ToCall, ToCallOn, ToCallOnThis, ToCallNumber, ToCallFunction, ToCurry, ToChain}
use Rattle.rhai_machine.specs.language.Frames.{Keyword, CallPointer, MakePointer, Curry, IsShared, IsDefinedVariable}
use Rattle.rhai_machine.specs.language.Expressions.{call_move}
use Rattle.rhai_machine.specs.language.Calls.{behind_path, call_of, plainly, races}
use Rattle.rhai_machine.specs.language.Calls.{answered, dispatch_behind, dispatch_core, function_behind, operator_core, applied}
use Rattle.rhai_machine.specs.language.Arguments.{call_on, lent_this, this_in, is_captured, linked_to, numbered_core, arguments_there}
use Rattle.rhai_machine.specs.language.Arguments.{arguments_core, on_variable, on_this, captured_move, named_move, operation_named}
use Rattle.rhai_machine.specs.language.Arguments.{pointer_of, pointer_wanted, text_wanted, unlinked_core, pointer_core}
use Rattle.rhai_machine.specs.language.Arguments.{keyword_core, keyword_of, function_core, function_move, behind_move, operation_in}
use Rattle.std.proofs.Common.{sym, ◌∙◌}
use Rattle.std.specs.Str.{bytes_eq}
use Rattle.rhai_state.specs.Scope.{value_in}
use Rattle.rhai_machine.specs.language.Values.{Cells, flat, through as seen_through}
use Rattle.rhai_machine.specs.language.Places.{is_constant}
use Rattle.rhai_machine.specs.language.Calls.{asks_function, called_function, enter_core, found_core, named_core}
use Rattle.rhai_machine.specs.language.Arguments.{linked_core, passed, passed_as, passed_flat, passed_seen}
use Rattle.rhai_machine.proofs.MeantLaws.{meant_entry}
use Rattle.rhai_constants.specs.Constants.{is_bottom}
use Rattle.rhai_constants.proofs.ConstantLemmas.{constant_mode}
use Rattle.rhai_constants.proofs.Keeping.{Told, IsDue, PurposeFlat, Loan, TellsChange, calm, due, Open, Settled, Calls, Inv, Keeps, through}
use Rattle.rhai_constants.proofs.Keeping.{knowing, Moves}
use Rattle.rhai_constants.proofs.Settling.{same, ended_keeps}

module _ {H : Type 0} where
  pub loan_of : (wanted : Option (Dynamic H)) (v : Dynamic H) (args : List (Dynamic H)) → IsDue wanted (Some v) →
      Loan wanted true (v ∷ args)
  loan_of None v args d = tt
  loan_of (Some w) v args d = let same : v ≡ w = cc in (refl, same)

  due_bound : (wanted : Option (Dynamic H)) (pos : Position) (this : Option (Dynamic H)) (v : Dynamic H) → bound_this pos this ≡ Ok v →
      IsDue wanted this → IsDue wanted (Some v)
  due_bound wanted pos (Some w) v is d = let same : w ≡ v = cc in subst (λ x. IsDue wanted (Some x)) same d
  due_bound wanted pos None v is d = cc

module _ {H : Type 0} (a : Told H) where
  -- what a value leads to keeps it, and so does an error
  pub on_keeps : {A : Type 0} (r : Result A (EvalAltResult H)) (go : A → Core H) (k : List (Frame H)) (l : Local H) →
      ((x : A) → Keeps a (calm k l) (go x)) → Keeps a (calm k l) (on_value r go k l)
  on_keeps (Ok x) go k l h = h x
  on_keeps (Err e) go k l h = same a tt (λ h. h.1)

  -- a call that was not written as an operator
  pub function_keeps : (keyword : Option Keyword) (operation : Operation) (args : List Expr) (captures : Bool) (k : List (Frame H))
      (l : Local H) →
      Keeps a (calm k l) (function_core keyword operation args captures k l)
  function_keeps (Some keyword) operation (arg ∷ args) captures k l = same a tt (λ h. h.1)
  function_keeps _ operation args captures k l = same a tt (λ h. h.1)

  -- an answer, which may say that the first argument may have changed
  changed_keeps : (r : Result (Dynamic H) (EvalAltResult H)) (k : List (Frame H)) (l : Local H) → Open a.of k →
      Keeps a (calm k l) (core (changed r) k l)
  changed_keeps (Ok v) k l o = same a o (λ h. h.1)
  changed_keeps (Err e) k l o = same a tt (λ h. h.1)

  pub answered_keeps : (marks : Bool) (reply : Reply H) (r : Result (Dynamic H) (EvalAltResult H)) (k : List (Frame H)) (l : Local H) →
      TellsChange marks (Open a.of k) → Keeps a (calm k l) (core (answered marks reply r) k l)
  answered_keeps false reply r k l o = ended_keeps a r k l
  answered_keeps true (Gives v) r k l o = changed_keeps r k l o
  answered_keeps true Missing r k l o = ended_keeps a r k l
  answered_keeps true (Faults e) r k l o = ended_keeps a r k l

  -- the constant is what a variable means that means its entry
  pub meant_is : (globals : Globals H) (variable : Variable) (at : ℕ) (v : Dynamic H) (k : List (Frame H)) (l : Local H) →
      Settled a.of k l → is_bottom k ≡ true → a.of.index ≡ at → meant globals l.around l.scope variable ≡ Ok (AtEntry at v) → v ≡ a.of.value
  meant_is globals variable at v k l s b e is =
      let entry = meant_entry globals l.around l.scope at v variable is in
      let there : value_in l.scope (Some at) ≡ Some a.of.value = rw e at (s.0 b) in
      let both : Some v ≡ Some a.of.value = sym entry.1 ∙ (ap (value_in l.scope) entry.0 ∙ there) in
      cc

  -- what a value leads to keeps it, where it is known what gave the value
  pub known_keeps : {A : Type 0} (r : Result A (EvalAltResult H)) (go : A → Core H) (k : List (Frame H)) (l : Local H) →
      (Inv a (calm k l) → (x : A) → r ≡ Ok x → Keeps a (calm k l) (go x)) → Keeps a (calm k l) (on_value r go k l)
  known_keeps (Ok x) go k l h = knowing a (λ i. h i x refl)
  known_keeps (Err e) go k l h = same a tt (λ h. h.1)

  -- the calls that lend nothing, and those that lend what is known
  pub lends_this : (operation : Operation) (args : List (Dynamic H)) (v : Dynamic H) (pos : Position) (k : List (Frame H)) (l : Local H) →
      Settled a.of k l → bound_this pos l.this ≡ Ok v → Calls a.of (lent_this operation args v) k
  lends_this operation args v pos k l s is = (loan_of (due a.of k).this v args (due_bound (due a.of k).this pos l.this v is s.1.1), tt)

  passed_calls : (constant : Bool) (operation : Operation) (args : List (Dynamic H)) (at : ℕ) (v : Dynamic H) (k : List (Frame H)) →
      (is_bottom k ≡ true → a.of.index ≡ at → v ≡ a.of.value) → is_constant v.mode ≡ constant →
      Calls a.of (passed_as constant operation args at v) k
  passed_calls true operation args at v k h is = (tt, tt)
  passed_calls false operation args at v k h is = (
    λ b e.
        let constant : is_constant v.mode ≡ true = rw (h b e) (constant_mode a.of.value a.of.constant) in
        let both : true ≡ false = sym constant ∙ is in
        cc,
    tt,
  )

  flat_calls : (operation : Operation) (args : List (Dynamic H)) (r : Result (Dynamic H) (EvalAltResult H)) (call : Call H)
      (k : List (Frame H)) → passed_flat operation args r ≡ Ok call → Calls a.of call k
  flat_calls operation args (Ok v) call k is =
      let made : call_of operation (v ∷ args) ≡ call = cc in subst (λ (c : Call H). Calls a.of c k) made (tt, tt)
  flat_calls operation args (Err e) call k is = cc

  union_calls : (cells : Cells H) (pos : Position) (operation : Operation) (args : List (Dynamic H)) (at : ℕ) (u : Union H)
      (v : Dynamic H) (call : Call H) (k : List (Frame H)) → (is_bottom k ≡ true → a.of.index ≡ at → v ≡ a.of.value) →
      passed cells pos operation args at u v ≡ Ok call → Calls a.of call k
  union_calls cells pos operation args at (value.Cell id) v call k h is = flat_calls operation args (flat cells v pos) call k is
  union_calls cells pos operation args at _ v call k h is =
      let made : passed_as (is_constant v.mode) operation args at v ≡ call = cc in
      subst (λ (c : Call H). Calls a.of c k) made (passed_calls (is_constant v.mode) operation args at v k h refl)

  seen_calls : (cells : Cells H) (pos : Position) (operation : Operation) (args : List (Dynamic H))
      (r : Result (Meaning H) (EvalAltResult H)) (call : Call H) (k : List (Frame H)) →
      ((at : ℕ) (v : Dynamic H) → r ≡ Ok (AtEntry at v) → is_bottom k ≡ true → a.of.index ≡ at → v ≡ a.of.value) →
      passed_seen cells pos operation args r ≡ Ok call → Calls a.of call k
  seen_calls cells pos operation args (Ok (AtEntry at v)) call k h is =
      union_calls cells pos operation args at v.value v call k (h at v refl) is
  seen_calls cells pos operation args (Ok (AsTemporary v)) call k h is =
      flat_calls operation args (flat cells (copy_of v) pos) call k is
  seen_calls cells pos operation args (Err e) call k h is = cc

  -- a variable that is read last is lent, where it is no constant
  pub variable_calls : (globals : Globals H) (operation : Operation) (variable : Variable) (args : List (Dynamic H)) (call : Call H)
      (k : List (Frame H)) (l : Local H) → Settled a.of k l → call_on globals l.around l.scope operation variable args ≡ Ok call →
      Calls a.of call k
  variable_calls globals operation variable args call k l s is = seen_calls l.around.cells variable.at operation args
      (meant globals l.around l.scope variable) call k (λ at v means b e. meant_is globals variable at v k l s b e means) is

  module _ (s : Setting H) where
    -- a call whose arguments are there
    pub if_keeps : (b : Bool) (c d : Core H) (k : List (Frame H)) (l : Local H) → Keeps a (calm k l) c → Keeps a (calm k l) d →
        Keeps a (calm k l) (if b then c else d)
    if_keeps true c d k l keeps other = keeps
    if_keeps false c d k l keeps other = other

    enter_keeps : (of_method : Bool) (f : Function H) (how : Dispatch) (call : Call H) (k : List (Frame H)) (l : Local H) →
        Keeps a (calm k l) (enter_core of_method f how call k l)
    enter_keeps true f how call k l = same a tt (λ h. h.1)
    enter_keeps false f how call k l = same a tt (λ h. h.1)

    found_keeps : (found : Option (Function H)) (how : Dispatch) (call : Call H) (k : List (Frame H)) (l : Local H) → Calls a.of call k →
        Keeps a (calm k l) (found_core s found how call k l)
    found_keeps (Some f) how call k l c = enter_keeps how.of_method f how call k l
    found_keeps None how call k l c = same a c (λ h. h.1)

    called_keeps : (args : List (Dynamic H)) (how : Dispatch) (call : Call H) (k : List (Frame H)) (l : Local H) → Calls a.of call k →
        Keeps a (calm k l) (named_core s how args call k l)
    called_keeps [] how call k l c = found_keeps (called_function s how call l) how call k l c
    called_keeps (v ∷ []) how call k l c = if_keeps (bytes_eq call.operation.name (codes "type_of")) _ _ k l (same a tt (λ h. h.1))
        (if_keeps (bytes_eq call.operation.name (codes "eval")) _ _ k l (same a tt (λ h. h.1))
        (found_keeps (called_function s how call l) how call k l c))
    called_keeps (v ∷ w ∷ []) how call k l c = if_keeps (bytes_eq call.operation.name (codes "is_def_fn")
        && asks_function (seen_through l.around.cells v call.operation.at) (seen_through l.around.cells w call.operation.at)) _ _ k l
        (same a tt (λ h. h.1)) (found_keeps (called_function s how call l) how call k l c)
    called_keeps (v ∷ w ∷ x ∷ args) how call k l c = found_keeps (called_function s how call l) how call k l c

    -- by its name alone, or behind a path
    behind_keeps : (path : List (List ℕ)) (how : Dispatch) (call : Call H) (k : List (Frame H)) (l : Local H) → Calls a.of call k →
        Keeps a (calm k l) (dispatch_behind s path how call k l)
    behind_keeps [] how call k l c = if_keeps (races l.around.cells call.args) _ _ k l (same a tt (λ h. h.1))
        (called_keeps call.args how call k l c)
    behind_keeps (root ∷ path) how call k l c =
        on_keeps (function_behind s root path how call l) _ k l (λ f. enter_keeps false f how call k l)

    pub dispatch_keeps : (how : Dispatch) (call : Call H) (k : List (Frame H)) (l : Local H) → Calls a.of call k →
        Keeps a (calm k l) (dispatch_core s how call k l)
    dispatch_keeps how call k l c = behind_keeps how.path.names how call k l c

    pub linked_keeps : (f : Function H) (object : ThisFrom) (at : Position) (args : List (Dynamic H)) (k : List (Frame H)) (l : Local H) →
        Keeps a (calm k l) (linked_core f object at args k l)
    linked_keeps f object at args k l = if_keeps (races l.around.cells args) _ _ k l (same a tt (λ h. h.1)) (same a tt (λ h. h.1))

    pub operator_keeps : (builtin : Option (Result (Dynamic H) (EvalAltResult H))) (call : Call H) (k : List (Frame H)) (l : Local H) →
        Calls a.of call k → Keeps a (calm k l) (operator_core s builtin call k l)
    operator_keeps (Some r) call k l c = ended_keeps a (applied s.limits r call.operation.at) k l
    operator_keeps None call k l c = dispatch_keeps (plainly false false) call k l c

    -- the arguments of a call, and what is done once they are there
    pub numbered_keeps : (call : Call H) (k : List (Frame H)) (l : Local H) → Calls a.of call k →
        Keeps a (calm k l) (numbered_core call k l)
    numbered_keeps call k l c = if_keeps (races l.around.cells call.args) _ _ k l (same a tt (λ h. h.1)) (same a c (λ h. h.1))

    arguments_there_keep : (purpose : Purpose H) (args : List (Dynamic H)) (k : List (Frame H)) (l : Local H) → PurposeFlat purpose args →
        Keeps a (calm k l) (arguments_there s purpose args k l)
    arguments_there_keep (ToCall operation curried how) args k l f = dispatch_keeps how (call_of operation (curried ++ args)) k l (tt, tt)
    arguments_there_keep (ToCallOn operation variable how) args k l f =
        known_keeps (call_on (globals_of s.offer) l.around l.scope operation variable args) _ k l
        (λ h call ok. dispatch_keeps how call k l (variable_calls (globals_of s.offer) operation variable args call k l h.1.1 ok))
    arguments_there_keep (ToCallOnThis operation this_at how) args k l f = known_keeps (bound_this this_at l.this) _ k l
        (λ h v ok. dispatch_keeps how (lent_this operation args v) k l (lends_this operation args v this_at k l h.1.1 ok))
    arguments_there_keep (ToCallFunction function at curried) args k l f = linked_keeps function NoThis at (curried ++ args) k l
    arguments_there_keep (ToCallNumber number operation curried) args k l f =
        numbered_keeps (record (call_of operation (curried ++ args)) { number = Some number }) k l (tt, tt)
    arguments_there_keep (ToCurry pointer) args k l f = same a tt (λ h. h.1)
    arguments_there_keep (ToChain chain (Some rest)) args k l f = same a f (λ h. h.1)
    arguments_there_keep (ToChain chain None) args k l f = same a f (λ h. h.1)

    pub arguments_keep : (purpose : Purpose H) (made : List (Dynamic H)) (args : List Expr) (k : List (Frame H)) (l : Local H) →
        PurposeFlat purpose made → Keeps a (calm k l) (arguments_core s purpose made args k l)
    arguments_keep purpose made [] k l f = arguments_there_keep purpose made k l f
    arguments_keep purpose made (arg ∷ args) k l f = same a tt (λ h. ((f, h.1.0), h.1.1))

    variable_keeps : (variable : Option Variable) (c : Core H) (operation : Operation) (how : Dispatch) (arg : Expr)
        (args : List Expr) (k : List (Frame H)) (l : Local H) → Keeps a c (calm k l) →
        Moves a c (on_variable s variable operation how arg args k l)
    variable_keeps (Some variable) c operation how arg args k l h =
        through a h (arguments_keep (ToCallOn operation variable how) [] args k l tt)
    variable_keeps None c operation how arg args k l h = through a h (arguments_keep (ToCall operation [] how) [] (arg ∷ args) k l tt)

    this_keeps : (there : Option Position) (c : Core H) (operation : Operation) (how : Dispatch) (arg : Expr) (args : List Expr)
        (k : List (Frame H)) (l : Local H) → Keeps a c (calm k l) →
        Moves a c (on_this s there operation how arg args k l)
    this_keeps (Some at) c operation how arg args k l h = through a h (arguments_keep (ToCallOnThis operation at how) [] args k l tt)
    this_keeps None c operation how arg args k l h = variable_keeps (variable_in (out-Expr arg)) c operation how arg args k l h

    captured_keeps : (captured alone : Bool) (c : Core H) (operation : Operation) (arg : Expr) (args : List Expr) (k : List (Frame H))
        (l : Local H) → Keeps a c (calm k l) →
        Moves a c (captured_move s captured alone operation arg args k l)
    captured_keeps true alone c operation arg args k l h =
        through a h (arguments_keep (ToCall operation [] (plainly alone true)) [] (arg ∷ args) k l tt)
    captured_keeps false alone c operation arg args k l h =
        this_keeps (this_in (out-Expr arg) l.this) c operation (plainly alone false) arg args k l h

    named_move_keeps : (c : Core H) (operation : Operation) (curried : List (Dynamic H)) (args : List Expr) (captures alone : Bool)
        (k : List (Frame H)) (l : Local H) → Keeps a c (calm k l) →
        Moves a c (named_move s operation curried args captures alone k l)
    named_move_keeps c operation [] (arg ∷ args) captures alone k l h =
        captured_keeps (is_captured captures l.scope) alone c operation arg args k l h
    named_move_keeps c operation [] [] captures alone k l h =
        through a h (arguments_keep (ToCall operation [] (plainly alone (is_captured captures l.scope))) [] [] k l tt)
    named_move_keeps c operation (v ∷ curried) args captures alone k l h =
        through a h (arguments_keep (ToCall operation (v ∷ curried) (plainly alone (is_captured captures l.scope))) [] args k l tt)

    pub named_keeps : (operation : Operation) (curried : List (Dynamic H)) (args : List Expr) (captures alone : Bool) (k : List (Frame H))
        (l : Local H) →
        Moves a (core (CallNamed operation curried args captures alone) k l)
        (named_move s operation curried args captures alone k l)
    named_keeps operation curried args captures alone k l = named_move_keeps (core (CallNamed operation curried args captures alone) k l)
        operation curried args captures alone k l (same a tt (λ h. h.1))

    -- a call behind a path
    path_keeps : (path : Path) (c : Core H) (operation : Operation) (args : List Expr) (k : List (Frame H)) (l : Local H) →
        Keeps a c (calm k l) → Moves a c (behind_move s path operation args k l)
    path_keeps path c operation [] k l h = through a h (arguments_keep (ToCall operation [] (behind_path path)) [] [] k l tt)
    path_keeps path c operation (arg ∷ args) k l h =
        this_keeps (this_in (out-Expr arg) l.this) c operation (behind_path path) arg args k l h

    unqualified_keeps : (is_unqualified : Bool) (c : Core H) (call : FnCallExpr) (pos : Position) (k : List (Frame H)) (l : Local H) →
        Keeps a c (calm k l) → Moves a c (function_move s is_unqualified call pos k l)
    unqualified_keeps true c call pos k l h = through a h (function_keeps
        (keyword_of call.op_token call.name (length call.args)) (operation_in call pos) call.args call.capture_parent_scope k l)
    unqualified_keeps false c call pos k l h = path_keeps (path_of call.namespace) c (operation_in call pos) call.args k l h

    pub call_keeps : (fast : Bool) (token : Option Token) (call : FnCallExpr) (args : List Expr) (pos : Position) (form : ExprLayer)
        (k : List (Frame H)) (l : Local H) → Moves a (core (OpenExpr form) k l) (call_move s fast token call args pos k l)
    call_keeps true (Some token) call (operand ∷ []) pos form k l = same a tt (λ h. h.1)
    call_keeps true (Some token) call (left ∷ right ∷ []) pos form k l = same a tt (λ h. h.1)
    call_keeps _ _ call args pos form k l = unqualified_keeps (is_unqualified call.namespace.path) (core (OpenExpr form) k l) call pos k l
        (same a tt (λ h. h.1))

    -- the first argument of a keyword
    unlinked_keeps : (of : FnPtrKind H) (pointer : FnPtr H) (pos : Position) (args : List Expr) (captures : Bool) (k : List (Frame H))
        (l : Local H) →
        Keeps a (calm k l) (unlinked_core s of pointer pos args captures k l)
    unlinked_keeps (kind.Native id) pointer pos args captures k l =
        arguments_keep (ToCallNumber id.number (operation_named (codes "call") pos) (out-FnPtr H pointer).curry) [] args k l tt
    unlinked_keeps _ pointer pos args captures k l = same a tt (λ h. h.1)

    pointer_keeps : (function : Option (Function H)) (pointer : FnPtr H) (pos : Position) (args : List Expr) (captures : Bool)
        (k : List (Frame H)) (l : Local H) →
        Keeps a (calm k l) (pointer_core s function pointer pos args captures k l)
    pointer_keeps (Some f) pointer pos args captures k l =
        arguments_keep (ToCallFunction f pos (out-FnPtr H pointer).curry) [] args k l tt
    pointer_keeps None pointer pos args captures k l = unlinked_keeps (out-FnPtr H pointer).kind pointer pos args captures k l

    pub keyword_keeps : (keyword : Keyword) (pos start : Position) (args : List Expr) (captures : Bool) (v : Dynamic H)
        (k : List (Frame H)) (l : Local H) →
        Keeps a (calm k l) (keyword_core s keyword pos start args captures v k l)
    keyword_keeps CallPointer pos start args captures v k l = on_keeps (pointer_wanted s.host_type l.around.cells v start) _ k l
        (λ pointer. pointer_keeps (linked_to pointer (length (out-FnPtr H pointer).curry + length args) l.around.lib) pointer pos args
        captures k l)
    keyword_keeps MakePointer pos start args captures v k l =
        on_keeps (text_wanted s.host_type l.around.cells v start) _ k l (λ name. ended_keeps a (pointer_of name start) k l)
    keyword_keeps Curry pos start args captures v k l = on_keeps (pointer_wanted s.host_type l.around.cells v start) _ k l
        (λ pointer. arguments_keep (ToCurry pointer) [] args k l tt)
    keyword_keeps IsShared pos start args captures v k l = same a tt (λ h. h.1)
    keyword_keeps IsDefinedVariable pos start args captures v k l =
        on_keeps (text_wanted s.host_type l.around.cells v start) _ k l (λ name. same a tt (λ h. h.1))
