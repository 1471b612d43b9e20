-- Calls behind a path: how they begin, and where they go once their arguments are there.
use Rattle.std.proofs.Common.{◌≡◌, ℕ, Bool, true, false, List, [], ◌∷◌, Option, Some, None, Result, Ok, Err, length}
use Rattle.std.proofs.Common.{refl, sym, ap, subst, ◌∙◌, ◌&&◌, ◌||◌, IsTrue, if◌then◌else◌, is_some, map}
use Rattle.std.proofs.lemmas.Bool.{lt-ltb, le-ltb}
use Rattle.std.specs.declared.num.NonZeroUsize.{NonZeroUsize}
use Rattle.rhai_tree.specs.declared.expr.Expr.{Expr, out-Expr}
use Rattle.rhai_tree.specs.declared.expr.Expr.TheOpen as layer
use Rattle.rhai_tree.specs.declared.expr.FnCallExpr.{FnCallExpr}
use Rattle.rhai_tree.specs.declared.expr.Namespace.{Namespace}
use Rattle.rhai_tree.specs.declared.position.Position.{Position}
use Rattle.rhai_tree.specs.Forms.{is_unqualified}
use Rattle.rhai_tree.specs.Frame.{all_resolve_exprs, resolves_expr, tests_of}
use Rattle.rhai_tree.specs.Layers.{ExprLayer}
use Rattle.rhai_tree.specs.Names.{Frame as NamesFrame, Name}
use Rattle.rhai_tree.specs.Positions.{position_at, position_of}
use Rattle.rhai_values.specs.declared.base.value.AccessMode.{AccessMode}
use Rattle.rhai_values.specs.declared.base.value.Dynamic.{Dynamic}
use Rattle.rhai_values.specs.declared.base.value.Union.{Union}
use Rattle.rhai_values.specs.declared.base.value.Union.TheVariants as value
use Rattle.rhai_values.specs.Copy.{copy_of, copy_union}
use Rattle.rhai_values.specs.TypeNames.{union_type_name}
use Rattle.rhai_errors.specs.declared.error.EvalAltResult.{EvalAltResult}
use Rattle.rhai_state.specs.declared.scope.Scope.{Scope}
use Rattle.rhai_lookups.specs.declared.run.RunState.{RunState}
use Rattle.rhai_functions.specs.declared.function.Function.{Function}
use Rattle.rhai_state.specs.declared.session.Offered.{Offered}
use Rattle.rhai_machine.specs.machine.Machine.{Move, Go, Charge}
use Rattle.rhai_machine.specs.machine.Memory.{here, Leads}
use Rattle.rhai_machine.specs.machine.Point.{moved}
use Rattle.rhai_machine.specs.language.Setting.{Globals, Rules, Setting, cut, globals_of, limit_under}
use Rattle.rhai_machine.specs.language.State.{Held, Local, State}
use Rattle.rhai_machine.specs.language.Values.{Cells, copied, flat, is_handle}
use Rattle.rhai_machine.specs.language.Variables.{Path, path_of, variable_in, variable_named}
use Rattle.rhai_machine.specs.language.Names.{Meaning, AtEntry, AsTemporary, bound_this, meant}
use Rattle.rhai_machine.specs.language.Places.{is_constant}
use Rattle.rhai_machine.specs.language.Activations.{NoThis}
use Rattle.rhai_machine.specs.language.Functions.{key_by}
use Rattle.rhai_machine.specs.language.Frames.{Call, Control, Core, Dispatch, EnterFunction, Fail, Frame, FromEntry, FromThis, Lender}
use Rattle.rhai_machine.specs.language.Frames.{OpenExpr, Operation, ToCall, core, on_value}
use Rattle.rhai_machine.specs.language.Calls.{args_given, behind_path, dispatch_behind, dispatch_core, enter_core, entry_of}
use Rattle.rhai_machine.specs.language.Calls.{public_behind, types_of}
use Rattle.rhai_machine.specs.language.Arguments.{arguments_core, arguments_there, behind_move, function_move, lent_this, on_this}
use Rattle.rhai_machine.specs.language.Arguments.{on_variable, operation_in, passed, passed_as, passed_flat, passed_seen, this_in}
use Rattle.rhai_machine.specs.language.Language.{machine, move}
use Rattle.rhai_machine.specs.language.Runs.{at, with_core, Goes}
use Rattle.rhai_steps.specs.Offers.{Offers, globals_in}
use Rattle.rhai_steps.specs.States.{local_of, state_of}
use Rattle.rhai_names.proofs.Offering.{globals_same}
use Rattle.rhai_steps.proofs.Pieces.{step_by}
use Rattle.rhai_calls.specs.Called.{Outcome, came_out}
use Rattle.rhai_steps.specs.Lending.{lent_call}
use Rattle.rhai_call_forms.specs.Forms.{is_operator_form}
use Rattle.rhai_call_forms.proofs.FormLemmas.{function_goes}
use Rattle.rhai_callees.specs.Behind.{before_last, behind_call, enters, is_read_last, last_of, led_by, public_call}
use Rattle.rhai_callees.specs.Behind.{public_at, purpose_of, purpose_on, value_at, behind_is_good, form_is_good, last_is_good}
use Rattle.rhai_callees.specs.Behind.{IsCharged, IsSpent}
use Rattle.rhai_callees.specs.Linked.{Comes}
use Rattle.rhai_names.specs.Passed.{meaning_passed}
use Rattle.rhai_callees.proofs.Going.{came_told}
use Rattle.rhai_steps.specs.Agreement.{call_leads, root_is_good, variable_leads}

-- ---- how such a call begins

-- what is read last is charged, if anything is
abbrev pub starts : {H : Type 0} → (last : Option Expr) → Core H → Move H (Core H)
starts (Some arg) c = Charge (position_of arg) c
starts None c = Go c

module _ {H : Type 0} (s : Setting H) (operation : Operation) (how : Dispatch) (k : List (Frame H)) (l : Local H) where
  module _ (arg : Expr) (args : List Expr) where
    abbrev started : (is_last : Bool) → ExprLayer → Move H (Core H)
    started true o = Charge (position_at o) (arguments_core s (purpose_on o operation how) [] args k l)
    started false o = Go (arguments_core s (ToCall operation [] how) [] (arg ∷ args) k l)

    form_seen : (o : ExprLayer) → out-Expr arg ≡ o →
        on_this s None operation how arg args k l ≡ on_variable s (variable_in o) operation how arg args k l
    form_seen o is = ap (λ (e : ExprLayer). on_variable s (variable_in e) operation how arg args k l) is

    this_starts : (handle : Bool) (pos : Position) → out-Expr arg ≡ layer.ThisPtr pos →
        on_this s (if handle then None else Some pos) operation how arg args k l
        ≡ started (is_some (if handle then None else Some pos) || false) (layer.ThisPtr pos)
    this_starts true pos is = form_seen (layer.ThisPtr pos) is
    this_starts false pos is = refl

    form_starts : (o : ExprLayer) (this : Option (Dynamic H)) → out-Expr arg ≡ o →
        on_this s (this_in o this) operation how arg args k l ≡ started (is_read_last o this) o
    form_starts (layer.ThisPtr pos) (Some v) is = this_starts (is_handle v.value) pos is
    form_starts o this is = form_seen o is

    started_so : (is_last : Bool) → started is_last (out-Expr arg)
        ≡ starts (if is_last then Some arg else None)
        (arguments_core s (purpose_of (if is_last then Some arg else None) operation how) [] (if is_last then args else arg ∷ args) k l)
    started_so true = refl
    started_so false = refl

-- a call behind a path begins with what it reads last
pub behind_starts : {H : Type 0} (s : Setting H) (path : Path) (operation : Operation) (args : List Expr) (k : List (Frame H))
    (l : Local H) →
    behind_move s path operation args k l
    ≡ starts (last_of args l.this)
    (arguments_core s (purpose_of (last_of args l.this) operation (behind_path path)) [] (before_last args l.this) k l)
behind_starts s path operation [] k l = refl
behind_starts s path operation (arg ∷ args) k l =
    form_starts s operation (behind_path path) k l arg args (out-Expr arg) l.this refl
    ∙ started_so s operation (behind_path path) k l arg args (is_read_last (out-Expr arg) l.this)

module _ {S H : Type 0} (rules : Rules S H) (t : S) (old : RunState H) (scope : Scope H) (held : Held H) where
  let_through : (last : Option Expr) (mid : RunState H) → IsCharged (limit_under rules) last old mid →
      (from : Control H) (k : List (Frame H)) (to : Local H → Core H) →
      Leads (machine rules) (cut rules)
      (moved (machine rules) (cut rules) (starts last (to (local_of old scope held))) (at from k (state_of t old scope held)))
      (with_core (to (local_of mid scope held)) (state_of t mid scope held))
  let_through (Some arg) mid charged from k to = rw (lt-ltb _ _ charged.0, charged.1) here
  let_through None mid same from k to = rw same here

  kept_out : (last : Option Expr) (e : EvalAltResult H) → IsSpent (limit_under rules) last old e →
      (from : Control H) (k : List (Frame H)) (to : Core H) →
      Leads (machine rules) (cut rules) (moved (machine rules) (cut rules) (starts last to) (at from k (state_of t old scope held)))
      (at (Fail e) k (state_of t old scope held))
  kept_out (Some arg) e spent from k to = rw (le-ltb _ _ spent.0, spent.1) here
  kept_out None e spent from k to = absurd spent

  module _ (call : FnCallExpr) (pos : Position)
      (other : is_operator_form rules.setting.offer.fast_operators call.op_token call.args ≡ false)
      (path : is_unqualified call.namespace.path ≡ false) (k : List (Frame H)) where
    abbrev last : Option Expr
    last = last_of call.args held.this

    abbrev goes_on : Local H → Core H
    goes_on l = arguments_core rules.setting (purpose_of last (operation_in call pos) (behind_path (path_of call.namespace))) []
        (before_last call.args held.this) k l

    opened : move rules.setting (core (OpenExpr (layer.Expr::FnCall call pos)) k (local_of old scope held))
        ≡ starts last (goes_on (local_of old scope held))
    opened =
        function_goes rules.setting rules.setting.offer.fast_operators call.op_token call call.args pos k (local_of old scope held) other
        ∙ ap (λ (unqualified : Bool). function_move rules.setting unqualified call pos k (local_of old scope held)) path
        ∙ behind_starts rules.setting (path_of call.namespace) (operation_in call pos) call.args k (local_of old scope held)

    -- what is read last is charged, and the other arguments follow
    pub behind_begins : (mid : RunState H) → IsCharged (limit_under rules) last old mid →
        Leads (machine rules) (cut rules) (at (OpenExpr (layer.Expr::FnCall call pos)) k (state_of t old scope held))
        (with_core (goes_on (local_of mid scope held)) (state_of t mid scope held))
    behind_begins mid charged = step_by rules _ _ (starts last (goes_on (local_of old scope held))) opened
        (let_through last mid charged (OpenExpr (layer.Expr::FnCall call pos)) k goes_on)

    -- or the limit has no room for it
    pub behind_spent : (e : EvalAltResult H) → IsSpent (limit_under rules) last old e →
        Leads (machine rules) (cut rules) (at (OpenExpr (layer.Expr::FnCall call pos)) k (state_of t old scope held))
        (at (Fail e) k (state_of t old scope held))
    behind_spent e spent = step_by rules _ _ (starts last (goes_on (local_of old scope held))) opened
        (kept_out last e spent (OpenExpr (layer.Expr::FnCall call pos)) k (goes_on (local_of old scope held)))

-- ---- that its arguments resolve

after : (a b : Bool) → IsTrue (a && b) → IsTrue b
after true b h = h
after false b h = cc

first_true : (a b : Bool) → IsTrue (a && b) → IsTrue a
first_true true b h = refl
first_true false b h = cc

both_true : (a b : Bool) → IsTrue a → IsTrue b → IsTrue (a && b)
both_true true b is holds = holds
both_true false b is holds = is

module _ (frame : NamesFrame) where
  chosen_resolve : (is_last : Bool) (arg : Expr) (args : List Expr) → IsTrue (all_resolve_exprs (map tests_of (arg ∷ args)) frame) →
      IsTrue (all_resolve_exprs (map tests_of (if is_last then args else arg ∷ args)) frame)
  chosen_resolve true arg args h = after (resolves_expr arg frame) (all_resolve_exprs (map tests_of args) frame) h
  chosen_resolve false arg args h = h

  -- those do that are evaluated before what is read last
  before_resolves : {H : Type 0} (args : List Expr) (this : Option (Dynamic H)) → IsTrue (all_resolve_exprs (map tests_of args) frame) →
      IsTrue (all_resolve_exprs (map tests_of (before_last args this)) frame)
  before_resolves [] this h = h
  before_resolves (arg ∷ args) this h = chosen_resolve (is_read_last (out-Expr arg) this) arg args h

  -- so do they of a call behind a path that may run
  pub before_leads : {H : Type 0} (namespace : Namespace) (args : List Expr) (this : Option (Dynamic H)) →
      IsTrue (call_leads namespace args frame) → IsTrue (all_resolve_exprs (map tests_of (before_last args this)) frame)
  before_leads namespace args this h =
      before_resolves args this (after (root_is_good namespace frame) (all_resolve_exprs (map tests_of args) frame) h)

  module _ (good : (e : Expr) (offset : Option NonZeroUsize) (name : Name) (namespace : Namespace) (pos : Position) →
      out-Expr e ≡ layer.Variable offset name namespace pos → IsTrue (resolves_expr e frame) →
      IsTrue (variable_leads offset name namespace frame)) where
    good_at : (arg : Expr) (o : ExprLayer) → out-Expr arg ≡ o → IsTrue (resolves_expr arg frame) →
        IsTrue (form_is_good o frame)
    good_at arg (layer.Variable offset name namespace pos) is h = good arg offset name namespace pos is h
    good_at arg _ is h = refl

    good_chosen : (is_last : Bool) (arg : Expr) → IsTrue (resolves_expr arg frame) →
        IsTrue (last_is_good (if is_last then Some arg else None) frame)
    good_chosen true arg h = good_at arg (out-Expr arg) refl h
    good_chosen false arg h = refl

    -- and the offset is good of what is read last, where that is so of each variable that resolves
    good_last : {H : Type 0} (args : List Expr) (this : Option (Dynamic H)) → IsTrue (all_resolve_exprs (map tests_of args) frame) →
        IsTrue (last_is_good (last_of args this) frame)
    good_last [] this h = refl
    good_last (arg ∷ args) this h = good_chosen (is_read_last (out-Expr arg) this) arg
        (first_true (resolves_expr arg frame) (all_resolve_exprs (map tests_of args) frame) h)

    -- with the index of the call's path
    pub good_behind : {H : Type 0} (namespace : Namespace) (args : List Expr) (this : Option (Dynamic H)) →
        IsTrue (call_leads namespace args frame) → IsTrue (behind_is_good (last_of args this) namespace frame)
    good_behind namespace args this h =
        let path = first_true (root_is_good namespace frame) (all_resolve_exprs (map tests_of args) frame) h in
        let rest = after (root_is_good namespace frame) (all_resolve_exprs (map tests_of args) frame) h in
        both_true (last_is_good (last_of args this) frame) (root_is_good namespace frame) (good_last args this rest) path

-- ---- once its arguments are there

-- a copy is of the same type
named_same : {H : Type 0} (host : H → List ℕ) (cells : Cells H) (u : Union H) →
    union_type_name host cells (copy_union u) ≡ union_type_name host cells u
named_same host cells (value.Cell id) = refl
named_same host cells _ = refl

module _ {H : Type 0} (s : Setting H) (path : Path) (root : List ℕ) (rest : List (List ℕ)) (is : path.names ≡ root ∷ rest)
    (operation : Operation) (k : List (Frame H)) (l : Local H) where
  abbrev cells : Cells H
  cells = l.around.cells

  abbrev types : List (Dynamic H) → List (List ℕ)
  types args = types_of s.host_type cells args

  -- what comes of all its arguments
  abbrev comes : Result (List (Dynamic H)) (EvalAltResult H) → Core H
  comes r = came_out true operation.at (public_call (globals_of s.offer) l.around s.host_type path operation.name operation.at r) k l

  abbrev found : (count : ℕ) → (types : List (List ℕ)) → Result (Function H) (EvalAltResult H)
  found count types = public_behind l.around.imports s.offer.global_sub_modules root rest path.at (key_by operation.name count None) types
      operation.at

  module _ (lender : Option Lender) (guarded : Bool) (given all : List (Dynamic H)) (same : args_given lender given ≡ all)
      (alike : types given ≡ types all) (count : length given ≡ length all) where
    abbrev call : Call H
    call = lent_call operation lender guarded given

    abbrev entering : Result (Function H) (EvalAltResult H) → Core H
    entering r = on_value r (λ f. enter_core false f (behind_path path) call k l) k l

    enters_is : (r : Result (Function H) (EvalAltResult H)) → entering r ≡ came_out true operation.at (enters r all) k l
    enters_is (Ok f) = ap (λ (xs : List (Dynamic H)). core (EnterFunction (entry_of f NoThis true xs operation.at l)) k l) same
    enters_is (Err e) = refl

    -- the function that the path leads to is entered
    dispatched : dispatch_core s (behind_path path) call k l ≡ comes (Ok all)
    dispatched =
        ap (λ (names : List (List ℕ)). dispatch_behind s names (behind_path path) call k l) is
        ∙ ap (λ (n : ℕ). entering (found n (types given))) count
        ∙ ap (λ (ts : List (List ℕ)). entering (found (length all) ts)) alike
        ∙ enters_is (found (length all) (types all))
        ∙ sym (ap (λ (names : List (List ℕ)). came_out true operation.at
        (enters (public_at (globals_of s.offer) l.around names path.at (key_by operation.name (length all) None) (types all) operation.at)
        all) k l) is)

  abbrev dispatching : Call H → Core H
  dispatching c = dispatch_core s (behind_path path) c k l

  same_types : (v : Dynamic H) (args : List (Dynamic H)) → types (v ∷ args) ≡ types (copy_of v ∷ args)
  same_types v args = ap (λ (t : List ℕ). t ∷ types args) (sym (named_same s.host_type cells v.value))

  -- a value by itself
  by_first : (r : Result (Dynamic H) (EvalAltResult H)) (args : List (Dynamic H)) →
      on_value (passed_flat operation args r) dispatching k l ≡ comes (led_by (Some r) args)
  by_first (Ok v) args = dispatched None false (v ∷ args) (v ∷ args) refl refl refl
  by_first (Err e) args = refl

  -- a value of an entry, of which the function gets a copy
  by_entry : (constant : Bool) (index : ℕ) (v : Dynamic H) (args : List (Dynamic H)) →
      dispatching (passed_as constant operation args index v) ≡ comes (Ok (copy_of v ∷ args))
  by_entry true index v args = dispatched None false (copy_of v ∷ args) (copy_of v ∷ args) refl refl refl
  by_entry false index v args = dispatched (Some (FromEntry index)) true (v ∷ args) (copy_of v ∷ args) refl (same_types v args) refl

  by_passed : (u : Union H) (mode : AccessMode) (index : ℕ) (args : List (Dynamic H)) (where_ : Position) →
      on_value (passed cells where_ operation args index u (record { value = u; mode = mode })) dispatching k l
      ≡ comes (led_by (Some (flat cells (copy_of (record { value = u; mode = mode })) where_)) args)
  by_passed (value.Cell id) mode index args where_ =
      by_first (flat cells (copy_of (record { value = value.Cell id; mode = mode })) where_) args
  by_passed u mode index args where_ = by_entry (is_constant mode) index (record { value = u; mode = mode }) args

  -- a variable
  by_meaning : (m : Result (Meaning H) (EvalAltResult H)) (args : List (Dynamic H)) (where_ : Position) →
      on_value (passed_seen cells where_ operation args m) dispatching k l ≡ comes (led_by (Some (meaning_passed cells where_ m)) args)
  by_meaning (Ok (AtEntry index v)) args where_ = by_passed v.value v.mode index args where_
  by_meaning (Ok (AsTemporary v)) args where_ = by_first (flat cells (copy_of v) where_) args
  by_meaning (Err e) args where_ = refl

  -- `this`
  by_this : (this : Option (Dynamic H)) (args : List (Dynamic H)) (where_ : Position) →
      on_value (bound_this where_ this) (λ v. dispatching (lent_this operation args v)) k l
      ≡ comes (led_by (Some (copied (bound_this where_ this))) args)
  by_this (Some v) args where_ = dispatched (Some FromThis) true (v ∷ args) (copy_of v ∷ args) refl (same_types v args) refl
  by_this None args where_ = refl

  by_form : (o : ExprLayer) (args : List (Dynamic H)) → arguments_there s (purpose_on o operation (behind_path path)) args k l
      ≡ comes (led_by (value_at (globals_of s.offer) l.around l.scope l.this o) args)
  by_form (layer.Variable offset name namespace pos) args =
      by_meaning (meant (globals_of s.offer) l.around l.scope (variable_named name namespace pos)) args pos
  by_form (layer.ThisPtr pos) args = by_this l.this args pos
  by_form _ args = dispatched None false args args refl refl refl

  -- what is read last, if anything is
  by_last : (last : Option Expr) (args : List (Dynamic H)) → arguments_there s (purpose_of last operation (behind_path path)) args k l
      ≡ came_out true operation.at (behind_call (globals_of s.offer) l.around l.scope l.this s.host_type last path operation.name args
      operation.at) k l
  by_last (Some arg) args = by_form (out-Expr arg) args
  by_last None args = dispatched None false args args refl refl refl

-- a path that is there has a root
rooted : (names : List (List ℕ)) → is_unqualified names ≡ false → (root : List ℕ) × (rest : List (List ℕ)) × (names ≡ root ∷ rest)
rooted [] is = absurd cc
rooted (root ∷ rest) is = (root, rest, refl)

-- a call behind a path goes where its arguments lead
pub behind_goes : {S H : Type 0} (rules : Rules S H) (offered : Offered H) → Offers rules.setting.offer offered → (path : Path) →
    is_unqualified path.names ≡ false → (operation : Operation) (last : Option Expr) (args : List (Dynamic H)) (s : State S H)
    (called : Outcome H) →
    Comes called (behind_call (globals_in offered) s.local.around s.local.scope s.local.this rules.setting.host_type last path
    operation.name args operation.at) →
    Goes rules (arguments_there rules.setting (purpose_of last operation (behind_path path)) args) s (came_out true operation.at called) s
unfolding Goes
behind_goes rules offered offers path behind operation last args s called comes k =
    let (root, rest, is) = rooted path.names behind in
    subst (λ (c : Core _). Leads (machine rules) (cut rules) (with_core c s) (with_core (came_out true operation.at called k s.local) s))
    (sym (by_last rules.setting path root rest is operation k s.local last args))
    (came_told rules true operation.at k s called (behind_call (globals_of rules.setting.offer) s.local.around s.local.scope s.local.this
    rules.setting.host_type last path operation.name args operation.at)
    (subst (λ (globals : Globals _). Comes called (behind_call globals s.local.around s.local.scope s.local.this
    rules.setting.host_type last path operation.name args operation.at)) (sym (globals_same rules.setting.offer offered offers)) comes))
