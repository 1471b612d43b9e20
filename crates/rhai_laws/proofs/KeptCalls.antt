-- What the rules of calls keep: what a native leaves goes back to a place that stands, and no rule adds names.
use Rattle.std.proofs.Common.{refl, ap, subst}
use Rattle.std.specs.Option.{option_map}
use Rattle.std.specs.Prelude.{◌≡◌, ⊤, ℕ, ◌+◌, length, ◌&&◌, Bool, true, false, List, [], ◌∷◌, ◌++◌, Option, Some, None, Result}
use Rattle.std.specs.Prelude.{Ok, Err, codes, is_some, if◌then◌else◌}
use Rattle.rhai_tree.specs.declared.position.Position.{Position}
use Rattle.rhai_tree.specs.declared.token.Token.{Token}
use Rattle.rhai_tree.specs.declared.expr.Expr.{Expr, out-Expr}
use Rattle.rhai_tree.specs.declared.expr.FnCallExpr.{FnCallExpr}
use Rattle.rhai_tree.specs.Layers.{ExprLayer}
use Rattle.rhai_tree.specs.Forms.{is_unqualified}
use Rattle.rhai_values.specs.declared.base.value.Dynamic.{Dynamic}
use Rattle.rhai_values.specs.declared.base.value.Union.{Union}
use Rattle.rhai_values.specs.declared.base.value.Union.TheVariants as value
use Rattle.rhai_values.specs.declared.base.value.FnPtr.{FnPtr, out-FnPtr}
use Rattle.rhai_values.specs.declared.base.value.FnPtrKind.{FnPtrKind}
use Rattle.rhai_values.specs.declared.base.value.FnPtrKind.TheVariants as kind
use Rattle.rhai_values.specs.Cells.{value_of_cell}
use Rattle.rhai_errors.specs.declared.error.EvalAltResult.{EvalAltResult}
use Rattle.rhai_machine.specs.language.Setting.{Setting, globals_of}
use Rattle.rhai_machine.specs.language.State.{Local}
use Rattle.rhai_machine.specs.language.Places.{Place, InCell, is_barred}
use Rattle.rhai_functions.specs.declared.function.Function.{Function}
use Rattle.rhai_machine.specs.language.Variables.{Path, Variable, path_of, variable_in}
use Rattle.rhai_machine.specs.language.Activations.{NoThis}
use Rattle.rhai_machine.specs.language.Names.{bound_this}
use Rattle.rhai_machine.specs.language.Frames.{Operation, Lender, FromEntry, FromThis, FromFocus, Dispatch, Call, Frame, Core, core}
use Rattle.rhai_machine.specs.language.Frames.{changed, on_value, CallNamed, Question, Fire, OpenExpr}
use Rattle.rhai_errors.specs.Native.{Reply, Missing, Gives, Faults}
use Rattle.rhai_machine.specs.language.Frames.{Purpose, ToCall, ToCallOn, ToCallOnThis, ToCallNumber, ToCallFunction, ToCurry, ToChain}
use Rattle.rhai_machine.specs.language.Frames.{Keyword, CallPointer, MakePointer, Curry, IsShared, IsDefinedVariable}
use Rattle.rhai_machine.specs.language.Expressions.{call_move}
use Rattle.rhai_machine.specs.language.Calls.{First, first_of, first_in, in_cell, lendable, place_of, while_from, put_left, call_native}
use Rattle.rhai_machine.specs.language.Calls.{fire_first, fire_move, barred_call, question_first, question_move, call_of, plainly, races}
use Rattle.rhai_machine.specs.language.Calls.{answered, behind_path, dispatch_core, operator_core, replied, applied}
use Rattle.rhai_machine.specs.language.Arguments.{call_on, lent_this, this_in, is_captured, linked_to, numbered_core, arguments_there}
use Rattle.rhai_machine.specs.language.Arguments.{arguments_core, on_variable, on_this, captured_move, named_move, operation_named}
use Rattle.rhai_machine.specs.language.Arguments.{pointer_of, pointer_wanted, text_wanted, unlinked_core, pointer_core}
use Rattle.rhai_machine.specs.language.Arguments.{keyword_core, keyword_of, function_core, operation_in, behind_move, function_move}
use Rattle.rhai_machine.proofs.MethodLaws.{Dispatched, dispatch_ends, linked_ends}
use Rattle.rhai_laws.specs.Kept.{Stands}
use Rattle.rhai_laws.specs.Steady.{Moves}
use Rattle.rhai_laws.proofs.Keeping.{Asked, Keeps, quiet, through, after, calm, ended_keeps, put_keeps}

module _ {H : Type 0} where
  -- the place that a first argument goes back to stands, if there is one
  abbrev GoesBack : Option Place → Local H → Type 0
  GoesBack None l = ⊤
  GoesBack (Some place) l = Stands place l

  pub lent_stands : (lender : Lender) (l : Local H) → Stands (place_of lender) l
  lent_stands (FromEntry index) l = tt
  lent_stands FromThis l = tt
  lent_stands FromFocus l = tt

  lender_stands : (lender : Option Lender) (l : Local H) → GoesBack (option_map place_of lender) l
  lender_stands None l = tt
  lender_stands (Some lender) l = lent_stands lender l

  lendable_stands : (operation : Operation) (from : Option Place) (u : Union H) (v : Dynamic H) (first : First H) (l : Local H) →
      GoesBack from l → lendable operation from u v ≡ Ok first → GoesBack first.from l
  lendable_stands operation from (value.Cell id) v first l stands is = cc
  lendable_stands operation from _ v first l stands is =
      let same : from ≡ first.from = cc in
      subst (λ (p : Option Place). GoesBack p l) same stands

  cell_stands : (operation : Operation) (n : ℕ) (there : Option (Dynamic H)) (first : First H) (l : Local H) →
      value_of_cell l.around.cells n ≡ there → in_cell operation n there ≡ Ok first → GoesBack first.from l
  cell_stands operation n (Some v) first l there is =
      lendable_stands operation (Some (InCell n)) v.value v first l (ap is_some there) is
  cell_stands operation n None first l there is = cc

  first_in_stands : (operation : Operation) (lender : Option Lender) (u : Union H) (v : Dynamic H) (first : First H) (l : Local H) →
      first_in l.around.cells operation lender u v ≡ Ok first → GoesBack first.from l
  first_in_stands operation lender (value.Cell id) v first l is =
      cell_stands operation id.number (value_of_cell l.around.cells id.number) first l refl is
  first_in_stands operation lender _ v first l is =
      let same : option_map place_of lender ≡ first.from = cc in
      subst (λ (p : Option Place). GoesBack p l) same (lender_stands lender l)

  first_stands : (call : Call H) (x : Dynamic H) (first : First H) (l : Local H) → first_of l.around.cells call x ≡ Ok first →
      GoesBack first.from l
  first_stands call x first l is = first_in_stands call.operation call.lender x.value x first l is

module _ {H : Type 0} (a : Asked) where
  -- what a value leads to keeps it, and so does an error
  pub on_keeps : {A : Type 0} (r : Result A (EvalAltResult H)) (go : A → Core H) (k : List (Frame H)) (l : Local H) →
      ((x : A) → Keeps a (calm k l) (go x)) → Keeps a (calm k l) (on_value r go k l)
  on_keeps (Ok x) go k l h = h x
  on_keeps (Err e) go k l h = quiet a tt refl (λ t. t)

  -- the ends of a call by name
  pub dispatched_keeps : (k : List (Frame H)) (l : Local H) → Dispatched k l (λ d. Keeps a (calm k l) d)
  dispatched_keeps k l = record {
    fails = λ e. quiet a tt refl (λ t. t);
    backs = λ v. quiet a tt refl (λ t. t);
    asks = λ call. quiet a tt refl (λ t. t);
    enters = λ f object is_fresh args at. quiet a tt refl (λ t. t);
  }

  -- a call that was not written as an operator
  pub function_keeps : (keyword : Option Keyword) (operation : Operation) (args : List Expr) (captures : Bool) (k : List (Frame H))
      (l : Local H) →
      Keeps a (calm k l) (function_core keyword operation args captures k l)
  function_keeps (Some keyword) operation (arg ∷ args) captures k l = quiet a tt refl (λ t. t)
  function_keeps _ operation args captures k l = quiet a tt refl (λ t. t)

  -- what a native leaves of its first argument goes back
  put_left_keeps : (from : Option Place) (left : Option (Dynamic H)) (k : List (Frame H)) (l : Local H) → GoesBack from l →
      Keeps a (calm k l) (calm k (put_left from left l))
  put_left_keeps (Some place) (Some v) k l stands = put_keeps a place v k l stands
  put_left_keeps (Some place) None k l stands = quiet a tt refl (λ t. t)
  put_left_keeps None left k l stands = quiet a tt refl (λ t. t)

  -- an answer, which may say that the first argument may have changed
  changed_keeps : (r : Result (Dynamic H) (EvalAltResult H)) (k : List (Frame H)) (l : Local H) → Keeps a (calm k l) (core (changed r) k l)
  changed_keeps (Ok v) k l = quiet a tt refl (λ t. t)
  changed_keeps (Err e) k l = quiet a tt refl (λ t. t)

  answered_keeps : (marks : Bool) (reply : Reply H) (r : Result (Dynamic H) (EvalAltResult H)) (k : List (Frame H)) (l : Local H) →
      Keeps a (calm k l) (core (answered marks reply r) k l)
  answered_keeps false reply r k l = ended_keeps a r k l
  answered_keeps true (Gives v) r k l = changed_keeps r k l
  answered_keeps true Missing r k l = ended_keeps a r k l
  answered_keeps true (Faults e) r k l = ended_keeps a r k l

  module _ (s : Setting H) where
    native_keeps : (call : Call H) (from : Option Place) (first : Option (Dynamic H)) (rest : List (Dynamic H)) (k : List (Frame H))
        (l : Local H) → GoesBack from l →
        Moves (Keeps a) (core (Fire call) k l) (call_native s call from first rest k l)
    native_keeps call from first rest k l stands = λ reply left.
        after a (calm k l) refl (λ t. t) (through a (put_left_keeps from left k l stands)
        (answered_keeps call.marks reply
        (replied s.limits s.host_type reply left rest call.operation (is_some call.number) (put_left from left l).around.cells) k
        (put_left from left l)))

    fire_first_keeps : (call : Call H) (rest : List (Dynamic H)) (x : Dynamic H) (r : Result (First H) (EvalAltResult H))
        (k : List (Frame H)) (l : Local H) → first_of l.around.cells call x ≡ r →
        Moves (Keeps a) (core (Fire call) k l) (fire_first s call rest r k l)
    fire_first_keeps call rest x (Ok first) k l is =
        native_keeps call first.from (Some first.value) rest k l (first_stands call x first l is)
    fire_first_keeps call rest x (Err e) k l is = quiet a tt refl (λ t. t)

    pub fire_keeps : (call : Call H) (args : List (Dynamic H)) (k : List (Frame H)) (l : Local H) →
        Moves (Keeps a) (core (Fire call) k l) (fire_move s call args k l)
    fire_keeps call [] k l = native_keeps call None None [] k l tt
    fire_keeps call (x ∷ rest) k l = fire_first_keeps call rest x (first_of l.around.cells call x) k l refl

    barred_call_keeps : (barred pure : Bool) (call : Call H) (k : List (Frame H)) (l : Local H) →
        Keeps a (core (Question call) k l) (barred_call s barred pure call k l)
    barred_call_keeps true pure call k l = quiet a tt refl (λ t. t)
    barred_call_keeps false pure call k l = quiet a tt refl (λ t. t)

    question_first_keeps : (call : Call H) (rest : List (Dynamic H)) (r : Result (First H) (EvalAltResult H)) (k : List (Frame H))
        (l : Local H) →
        Moves (Keeps a) (core (Question call) k l) (question_first s call rest r k l)
    question_first_keeps call rest (Ok first) k l =
        λ pure. barred_call_keeps (call.guarded && is_barred pure first.value) pure call k l
    question_first_keeps call rest (Err e) k l = quiet a tt refl (λ t. t)

    pub question_keeps : (call : Call H) (args : List (Dynamic H)) (k : List (Frame H)) (l : Local H) →
        Moves (Keeps a) (core (Question call) k l) (question_move s call args k l)
    question_keeps call [] k l = λ pure. quiet a tt refl (λ t. t)
    question_keeps call (x ∷ rest) k l = question_first_keeps call rest (first_of l.around.cells call x) k l

    -- a call whose arguments are there
    pub if_keeps : (b : Bool) (c d : Core H) (k : List (Frame H)) (l : Local H) → Keeps a (calm k l) c → Keeps a (calm k l) d →
        Keeps a (calm k l) (if b then c else d)
    if_keeps true c d k l keeps other = keeps
    if_keeps false c d k l keeps other = other

    pub dispatch_keeps : (how : Dispatch) (call : Call H) (k : List (Frame H)) (l : Local H) →
        Keeps a (calm k l) (dispatch_core s how call k l)
    dispatch_keeps how call k l =
        dispatch_ends k l (λ d. Keeps a (calm k l) d) (dispatched_keeps k l) s how call

    pub operator_keeps : (builtin : Option (Result (Dynamic H) (EvalAltResult H))) (call : Call H) (k : List (Frame H)) (l : Local H) →
        Keeps a (calm k l) (operator_core s builtin call k l)
    operator_keeps (Some r) call k l = ended_keeps a (applied s.limits r call.operation.at) k l
    operator_keeps None call k l = dispatch_keeps (plainly false false) call k l

    -- the arguments of a call, and what is done once they are there
    pub numbered_keeps : (call : Call H) (k : List (Frame H)) (l : Local H) → Keeps a (calm k l) (numbered_core call k l)
    numbered_keeps call k l =
        if_keeps (races l.around.cells call.args) _ _ k l (quiet a tt refl (λ t. t)) (quiet a tt refl (λ t. t))

    arguments_there_keep : (purpose : Purpose H) (args : List (Dynamic H)) (k : List (Frame H)) (l : Local H) →
        Keeps a (calm k l) (arguments_there s purpose args k l)
    arguments_there_keep (ToCall operation curried how) args k l = dispatch_keeps how (call_of operation (curried ++ args)) k l
    arguments_there_keep (ToCallOn operation variable how) args k l =
        on_keeps (call_on (globals_of s.offer) l.around l.scope operation variable args) _ k l (λ call. dispatch_keeps how call k l)
    arguments_there_keep (ToCallOnThis operation this_at how) args k l =
        on_keeps (bound_this this_at l.this) _ k l (λ v. dispatch_keeps how (lent_this operation args v) k l)
    arguments_there_keep (ToCallFunction function at curried) args k l =
        linked_ends k l (λ d. Keeps a (calm k l) d) (dispatched_keeps k l) function NoThis at (curried ++ args)
    arguments_there_keep (ToCallNumber number operation curried) args k l =
        numbered_keeps (record (call_of operation (curried ++ args)) { number = Some number }) k l
    arguments_there_keep (ToCurry pointer) args k l = quiet a tt refl (λ t. t)
    arguments_there_keep (ToChain chain (Some rest)) args k l = quiet a tt refl (λ t. t)
    arguments_there_keep (ToChain chain None) args k l = quiet a tt refl (λ t. t)

    pub arguments_keep : (purpose : Purpose H) (made : List (Dynamic H)) (args : List Expr) (k : List (Frame H)) (l : Local H) →
        Keeps a (calm k l) (arguments_core s purpose made args k l)
    arguments_keep purpose made [] k l = arguments_there_keep purpose made k l
    arguments_keep purpose made (arg ∷ args) k l = quiet a tt refl (λ t. t)

    variable_keeps : (variable : Option Variable) (c : Core H) (operation : Operation) (how : Dispatch) (arg : Expr)
        (args : List Expr) (k : List (Frame H)) (l : Local H) → Keeps a c (calm k l) →
        Moves (Keeps a) c (on_variable s variable operation how arg args k l)
    variable_keeps (Some variable) c operation how arg args k l h =
        through a h (arguments_keep (ToCallOn operation variable how) [] args k l)
    variable_keeps None c operation how arg args k l h = through a h (arguments_keep (ToCall operation [] how) [] (arg ∷ args) k l)

    this_keeps : (there : Option Position) (c : Core H) (operation : Operation) (how : Dispatch) (arg : Expr) (args : List Expr)
        (k : List (Frame H)) (l : Local H) → Keeps a c (calm k l) →
        Moves (Keeps a) c (on_this s there operation how arg args k l)
    this_keeps (Some at) c operation how arg args k l h = through a h (arguments_keep (ToCallOnThis operation at how) [] args k l)
    this_keeps None c operation how arg args k l h = variable_keeps (variable_in (out-Expr arg)) c operation how arg args k l h

    captured_keeps : (captured alone : Bool) (c : Core H) (operation : Operation) (arg : Expr) (args : List Expr) (k : List (Frame H))
        (l : Local H) → Keeps a c (calm k l) →
        Moves (Keeps a) c (captured_move s captured alone operation arg args k l)
    captured_keeps true alone c operation arg args k l h =
        through a h (arguments_keep (ToCall operation [] (plainly alone true)) [] (arg ∷ args) k l)
    captured_keeps false alone c operation arg args k l h =
        this_keeps (this_in (out-Expr arg) l.this) c operation (plainly alone false) arg args k l h

    named_move_keeps : (c : Core H) (operation : Operation) (curried : List (Dynamic H)) (args : List Expr) (captures alone : Bool)
        (k : List (Frame H)) (l : Local H) → Keeps a c (calm k l) →
        Moves (Keeps a) c (named_move s operation curried args captures alone k l)
    named_move_keeps c operation [] (arg ∷ args) captures alone k l h =
        captured_keeps (is_captured captures l.scope) alone c operation arg args k l h
    named_move_keeps c operation [] [] captures alone k l h =
        through a h (arguments_keep (ToCall operation [] (plainly alone (is_captured captures l.scope))) [] [] k l)
    named_move_keeps c operation (v ∷ curried) args captures alone k l h =
        through a h (arguments_keep (ToCall operation (v ∷ curried) (plainly alone (is_captured captures l.scope))) [] args k l)

    pub named_keeps : (operation : Operation) (curried : List (Dynamic H)) (args : List Expr) (captures alone : Bool) (k : List (Frame H))
        (l : Local H) →
        Moves (Keeps a) (core (CallNamed operation curried args captures alone) k l)
        (named_move s operation curried args captures alone k l)
    named_keeps operation curried args captures alone k l = named_move_keeps (core (CallNamed operation curried args captures alone) k l)
        operation curried args captures alone k l (quiet a tt refl (λ t. t))

    -- a call behind a path
    behind_keeps : (path : Path) (operation : Operation) (args : List Expr) (c : Core H) (k : List (Frame H)) (l : Local H) →
        Keeps a c (calm k l) → Moves (Keeps a) c (behind_move s path operation args k l)
    behind_keeps path operation [] c k l h = through a h (arguments_keep (ToCall operation [] (behind_path path)) [] [] k l)
    behind_keeps path operation (arg ∷ args) c k l h =
        this_keeps (this_in (out-Expr arg) l.this) c operation (behind_path path) arg args k l h

    function_move_keeps : (is_unqualified : Bool) (call : FnCallExpr) (pos : Position) (c : Core H) (k : List (Frame H)) (l : Local H) →
        Keeps a c (calm k l) → Moves (Keeps a) c (function_move s is_unqualified call pos k l)
    function_move_keeps true call pos c k l h = through a h (function_keeps (keyword_of call.op_token call.name (length call.args))
        (operation_in call pos) call.args call.capture_parent_scope k l)
    function_move_keeps false call pos c k l h =
        behind_keeps (path_of call.namespace) (operation_in call pos) call.args c k l h

    pub call_keeps : (fast : Bool) (token : Option Token) (call : FnCallExpr) (args : List Expr) (pos : Position) (form : ExprLayer)
        (k : List (Frame H)) (l : Local H) →
        Moves (Keeps a) (core (OpenExpr form) k l) (call_move s fast token call args pos k l)
    call_keeps true (Some token) call (operand ∷ []) pos form k l = quiet a tt refl (λ t. t)
    call_keeps true (Some token) call (left ∷ right ∷ []) pos form k l = quiet a tt refl (λ t. t)
    call_keeps _ _ call args pos form k l = function_move_keeps (is_unqualified call.namespace.path) call pos (core (OpenExpr form) k l) k l
        (quiet a tt refl (λ t. t))

    -- the first argument of a keyword
    unlinked_keeps : (of : FnPtrKind H) (pointer : FnPtr H) (pos : Position) (args : List Expr) (captures : Bool) (k : List (Frame H))
        (l : Local H) →
        Keeps a (calm k l) (unlinked_core s of pointer pos args captures k l)
    unlinked_keeps (kind.Native id) pointer pos args captures k l =
        arguments_keep (ToCallNumber id.number (operation_named (codes "call") pos) (out-FnPtr H pointer).curry) [] args k l
    unlinked_keeps _ pointer pos args captures k l = quiet a tt refl (λ t. t)

    pointer_keeps : (function : Option (Function H)) (pointer : FnPtr H) (pos : Position) (args : List Expr) (captures : Bool)
        (k : List (Frame H)) (l : Local H) →
        Keeps a (calm k l) (pointer_core s function pointer pos args captures k l)
    pointer_keeps (Some f) pointer pos args captures k l =
        arguments_keep (ToCallFunction f pos (out-FnPtr H pointer).curry) [] args k l
    pointer_keeps None pointer pos args captures k l = unlinked_keeps (out-FnPtr H pointer).kind pointer pos args captures k l

    pub keyword_keeps : (keyword : Keyword) (pos start : Position) (args : List Expr) (captures : Bool) (v : Dynamic H)
        (k : List (Frame H)) (l : Local H) →
        Keeps a (calm k l) (keyword_core s keyword pos start args captures v k l)
    keyword_keeps CallPointer pos start args captures v k l = on_keeps (pointer_wanted s.host_type l.around.cells v start) _ k l
        (λ pointer. pointer_keeps (linked_to pointer (length (out-FnPtr H pointer).curry + length args) l.around.lib) pointer pos args
        captures k l)
    keyword_keeps MakePointer pos start args captures v k l =
        on_keeps (text_wanted s.host_type l.around.cells v start) _ k l (λ name. ended_keeps a (pointer_of name start) k l)
    keyword_keeps Curry pos start args captures v k l = on_keeps (pointer_wanted s.host_type l.around.cells v start) _ k l
        (λ pointer. arguments_keep (ToCurry pointer) [] args k l)
    keyword_keeps IsShared pos start args captures v k l = quiet a tt refl (λ t. t)
    keyword_keeps IsDefinedVariable pos start args captures v k l =
        on_keeps (text_wanted s.host_type l.around.cells v start) _ k l (λ name. quiet a tt refl (λ t. t))
