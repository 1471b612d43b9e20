-- Pieces of runs, as the functions of the evaluator put them together.
use Rattle.std.proofs.Common.{◌≡◌, ◌≢◌, ◌<◌, ◌≤◌, ◌+◌, ◌==◌, ◌&&◌, ℕ, Bool, true, false, List, [], ◌∷◌, length, take, drop, get_or}
use Rattle.std.proofs.Common.{arith, drop-cons, add-one, Option, Some, None, Result, Ok, Err, refl, sym, ap, is_none, is_some, rules}
use Rattle.std.proofs.lemmas.Bool.{lt-ltb, le-ltb, true≢false}
use Rattle.std.proofs.lemmas.List as Lemmas
use Rattle.std.specs.Prelude.{IsTrue, OnOk}
use Rattle.rhai_tree.specs.declared.position.Position.{Position}
use Rattle.rhai_tree.specs.declared.expr.Expr.{Expr, out-Expr}
use Rattle.rhai_tree.specs.declared.expr.Stmt.{Stmt, out-Stmt}
use Rattle.rhai_tree.specs.Layers.{ExprLayer, StmtLayer}
use Rattle.rhai_tree.specs.Positions.{position_of, stmt_position_of}
use Rattle.rhai_values.specs.declared.base.value.Dynamic.{Dynamic}
use Rattle.rhai_state.specs.declared.scope.Scope.{Scope}
use Rattle.rhai_lookups.specs.declared.run.RunState.{RunState}
use Rattle.rhai_errors.specs.declared.error.EvalAltResult.{EvalAltResult}
use Rattle.rhai_errors.specs.declared.error.EvalAltResult.TheVariants as error
use Rattle.rhai_machine.specs.machine.Machine.{Go}
use Rattle.rhai_machine.specs.machine.Point.{after}
use Rattle.rhai_machine.specs.machine.Memory.{here, next, out_before_step, ◌⨾◌, Leads}
use Rattle.rhai_machine.specs.language.Setting.{Rules, limit_under, cut}
use Rattle.rhai_machine.specs.language.State.{Held, State}
use Rattle.rhai_errors.specs.Errors.{is_out_of_memory}
use Rattle.rhai_machine.specs.language.Frames.{StatementValue, RightOperand, AssignChain, AssignThisValue, AssignValue}
use Rattle.rhai_machine.specs.language.Frames.{ReturnValue, Frame, core, ended, UnaryOperand, LeftOperand}
use Rattle.rhai_machine.specs.language.Frames.{DefineValue, Eval, Exec, Argument, OpenExpr, OpenStmt, Enter, Run, Back, Fail, RestoreList}
use Rattle.rhai_machine.specs.language.Frames.{ForItems, Saved, SwitchValue, ThrowValue}
use Rattle.rhai_machine.specs.language.Calls.{operation_at}
use Rattle.rhai_tree.specs.declared.expr.Expr.TheOpen as layer
use Rattle.rhai_tree.specs.declared.expr.FnCallExpr.{FnCallExpr}
use Rattle.rhai_tree.specs.declared.token.Token.{Token}
use Rattle.rhai_machine.specs.language.Statements.{restored_by, saved_by, deeper, define_core}
use Rattle.rhai_machine.specs.language.Unwinding.{down_core, up_core}
use Rattle.std.specs.declared.num.NonZeroUsize.{NonZeroUsize}
use Rattle.rhai_machine.specs.language.Values.{flat, unit_value}
use Rattle.rhai_machine.specs.language.Runs.{at, Runs, Goes}
use Rattle.rhai_machine.specs.language.Language.{machine}
use Rattle.rhai_tree.specs.declared.expr.Ident.{Ident}
use Rattle.rhai_tree.specs.declared.flags.ASTFlags.{ASTFlags}
use Rattle.rhai_state.specs.Scope.{entries_of}
use Rattle.rhai_steps.specs.States.{local_of, state_of}
use Rattle.rhai_names.specs.Declaring.{declarable, is_full, is_taken}
use Rattle.rhai_steps.proofs.Pieces.{or_runs_out, step_by}
use Rattle.rhai_names.specs.Saves.{saved_in, left_global}
use Rattle.rhai_names.specs.declared.variables.Saved as code

-- the item at an index, and what is left
pub drop_item : {A : Type 0} (xs : List A) (i : ℕ) (x : A) → i < length xs → x ≡ get_or xs i x → drop i xs ≡ x ∷ drop (i + 1) xs
drop_item xs i x h e = rw (add-one, drop-cons xs i x h, ← e) refl

pub drop_all : {A : Type 0} (xs : List A) (i : ℕ) → length xs ≤ i → drop i xs ≡ []
drop_all xs i h = Lemmas.drop_all i xs h

-- a list that is tested to be empty or not
pub is_empty_list : {A : Type 0} (xs : List A) → (length xs == 0) ≡ true → xs ≡ []
is_empty_list [] h = refl
is_empty_list (x ∷ xs) h = search rules

pub is_not_empty : {A : Type 0} (xs : List A) → (length xs == 0) ≡ false → xs ≢ []
is_not_empty xs h e = absurd (true≢false (rw e at h))

-- a list that is not empty has an item
pub has_some : {A : Type 0} (xs : List A) → xs ≢ [] → 1 ≤ length xs
has_some [] some = absurd (some refl)
has_some (x ∷ xs) some = omega arith

-- the state that a restoring list leaves
pub left_state : {S H : Type 0} (t : S) (old new : RunState H) (before after : Scope H) (held : Held H)
    (saved : code.Saved) (kept : Saved) →
    saved_in saved ≡ kept → entries_of after ≡ take saved.scope_length (entries_of before) → new ≡ left_global saved old →
    state_of t new after held ≡ record (state_of t old before held) { local = restored_by kept (local_of old before held) }
left_state t old new before after held saved kept is scope global = rw (← is, scope, global) refl

module _ {S H : Type 0} (rules : Rules S H) where
  module _ (t : S) (old mid : RunState H) (scope : Scope H) (held : Held H)
      (room : old.num_operations < limit_under rules) (charged : mid ≡ record old { num_operations = old.num_operations + 1 }) where
    -- a start that is charged opens the expression
    pub begins : (e : Expr) (o : ExprLayer) → out-Expr e ≡ o → (k : List (Frame H)) →
        Leads (machine rules) (cut rules) (at (Eval e) k (state_of t old scope held)) (at (OpenExpr o) k (state_of t mid scope held))
    unfolding after
    begins e o is k = next (rw (lt-ltb _ _ room, charged, is) here)

    pub begins_stmt : (x : Stmt) (restoring : Bool) (o : StmtLayer) → out-Stmt x ≡ o → (k : List (Frame H)) →
        Leads (machine rules) (cut rules) (at (Exec x restoring) k (state_of t old scope held))
        (at (OpenStmt o restoring) k (state_of t mid scope held))
    unfolding after
    begins_stmt x restoring o is k = next (rw (lt-ltb _ _ room, charged, is) here)

    -- a charged form does what its opened form does
    pub opens : (new : State S H) (r : Result (Dynamic H) (EvalAltResult H)) (e : Expr) (o : ExprLayer) →
        Runs rules (OpenExpr o) (state_of t mid scope held) r new → out-Expr e ≡ o → Runs rules (Eval e) (state_of t old scope held) r new
    unfolding Goes
    opens new r e o runs is k = begins e o is k ⨾ runs k

    pub opens_stmt : (new : State S H) (r : Result (Dynamic H) (EvalAltResult H)) (x : Stmt) (restoring : Bool) (o : StmtLayer) →
        Runs rules (OpenStmt o restoring) (state_of t mid scope held) r new → out-Stmt x ≡ o →
        Runs rules (Exec x restoring) (state_of t old scope held) r new
    unfolding Goes
    opens_stmt new r x restoring o runs is k = begins_stmt x restoring o is k ⨾ runs k

  module _ (t : S) (old new : RunState H) (scope : Scope H) (held : Held H) (pos : Position) (x : EvalAltResult H)
      (r : Result (Dynamic H) (EvalAltResult H))
      (is : r ≡ Err x) (full : limit_under rules ≤ old.num_operations) (refused : x ≡ error.ErrorTooManyOperations pos)
      (same : new ≡ old) where
    pub refuses : (e : Expr) → pos ≡ position_of e → Runs rules (Eval e) (state_of t old scope held) r (state_of t new scope held)
    unfolding after Goes
    refuses e place k = next (rw (le-ltb _ _ full, is, refused, same, place) here)

    pub refuses_stmt : (e : Stmt) (restoring : Bool) → pos ≡ stmt_position_of e →
        Runs rules (Exec e restoring) (state_of t old scope held) r (state_of t new scope held)
    unfolding after Goes
    refuses_stmt e restoring place k = next (rw (le-ltb _ _ full, is, refused, same, place) here)

  -- an operator call begins with its first operand
  pub opens_unary : (call : FnCallExpr) (token : Token) (operand : Expr) (pos : Position) (k : List (Frame H)) (l : State S H) →
      rules.setting.offer.fast_operators ≡ true → call.op_token ≡ Some token → call.args ≡ operand ∷ [] →
      Leads (machine rules) (cut rules) (at (OpenExpr (layer.Expr::FnCall call pos)) k l)
      (at (Argument operand) (UnaryOperand (operation_at call.name token pos) (position_of operand) ∷ k) l)
  unfolding after
  opens_unary call token operand pos k l fast is args =
      step_by rules _ _ (Go (core (Argument operand) (UnaryOperand (operation_at call.name token pos) (position_of operand) ∷ k)
      l.local)) (rw (fast, is, args) refl) here

  -- a restoring list's end takes back what it saved
  pub restores : (r : Result (Dynamic H) (EvalAltResult H)) (saved : Saved) (k : List (Frame H)) (old new : State S H) →
      new ≡ record old { local = restored_by saved old.local } →
      Leads (machine rules) (cut rules) (at (ended r) (RestoreList saved ∷ k) old) (at (ended r) k new)
  unfolding after
  restores (Ok v) saved k old new is = next (rw is here)
  restores (Err e) saved k old new is = next (rw is here)

  -- a list that is entered: an empty one has no effect
  pub enters_empty : (stmts : List Stmt) (restoring : Bool) (k : List (Frame H)) (l : State S H) → stmts ≡ [] →
      Leads (machine rules) (cut rules) (at (Enter stmts restoring) k l) (at (Back unit_value) k l)
  unfolding after
  enters_empty stmts restoring k l is = next (rw is here)

  pub enters_plain : (stmts : List Stmt) (k : List (Frame H)) (l : State S H) → stmts ≢ [] →
      Leads (machine rules) (cut rules) (at (Enter stmts false) k l) (at (Run stmts false unit_value) k l)
  unfolding after
  enters_plain [] k l some = absurd (some refl)
  enters_plain (stmt ∷ stmts) k l some = next here

  pub enters_restoring : (stmts : List Stmt) (k : List (Frame H)) (l : State S H) → stmts ≢ [] →
      Leads (machine rules) (cut rules) (at (Enter stmts true) k l) (at (Run stmts true unit_value) (RestoreList (saved_by l.local) ∷ k)
      (record l { local = record l.local { scope_level = deeper l.local.scope_level } }))
  unfolding after
  enters_restoring [] k l some = absurd (some refl)
  enters_restoring (stmt ∷ stmts) k l some = next here

  -- a frame makes an error of the value that it waited for, or memory runs out before it does
  pub fails_on : (v : Dynamic H) (f : Frame H) (k : List (Frame H)) (l : State S H) (e : EvalAltResult H) →
      ((x : EvalAltResult H) → down_core rules.setting f x k l.local ≡ core (Fail x) k l.local) →
      (is_out_of_memory e ≡ false → up_core rules.setting f v k l.local ≡ core (Fail e) k l.local) →
      Leads (machine rules) (cut rules) (at (Back v) (f ∷ k) l) (at (Fail e) k l)
  fails_on v f k l (error.ErrorOutOfMemory pos) passes fails =
      out_before_step {at = pos} (step_by rules _ _ _ (ap Go (passes (error.ErrorOutOfMemory pos))) here)
  fails_on v f k l e passes fails = step_by rules _ _ _ (ap Go (fails refl)) here

  -- where a frame flattens its value
  abbrev pub flattens : Frame H → Option Position
  flattens (StatementValue value_at) = Some value_at
  flattens (DefineValue ident index options restoring value_at) = Some value_at
  flattens (UnaryOperand operation operand_at) = Some operand_at
  flattens (LeftOperand operation left_at right) = Some left_at
  flattens (RightOperand operation left right_at) = Some right_at
  flattens (AssignValue assignment value_at) = Some value_at
  flattens (AssignThisValue op pos value_at) = Some value_at
  flattens (ReturnValue value_at pos) = Some value_at
  flattens (ThrowValue value_at pos) = Some value_at
  flattens (SwitchValue value_at choice) = Some value_at
  flattens (ForItems loop) = Some (position_of loop.items)
  flattens (AssignChain root chain op value_at) = Some value_at
  flattens _ = None

  module _ (v : Dynamic H) (pos : Position) (k : List (Frame H)) (l : State S H) (e : EvalAltResult H) where
    flat_core : (f : Frame H) → flattens f ≡ Some pos → Err e ≡ flat l.local.around.cells v pos →
        up_core rules.setting f v k l.local ≡ core (Fail e) k l.local
    flat_core (StatementValue value_at) is told = let same : value_at ≡ pos = cc in rw (same, ← told) refl
    flat_core (DefineValue ident index options restoring value_at) is told = let same : value_at ≡ pos = cc in rw (same, ← told) refl
    flat_core (UnaryOperand operation operand_at) is told = let same : operand_at ≡ pos = cc in rw (same, ← told) refl
    flat_core (LeftOperand operation left_at right) is told = let same : left_at ≡ pos = cc in rw (same, ← told) refl
    flat_core (RightOperand operation left right_at) is told = let same : right_at ≡ pos = cc in rw (same, ← told) refl
    flat_core (AssignValue assignment value_at) is told = let same : value_at ≡ pos = cc in rw (same, ← told) refl
    flat_core (AssignThisValue op this_at value_at) is told = let same : value_at ≡ pos = cc in rw (same, ← told) refl
    flat_core (ReturnValue value_at at) is told = let same : value_at ≡ pos = cc in rw (same, ← told) refl
    flat_core (ThrowValue value_at at) is told = let same : value_at ≡ pos = cc in rw (same, ← told) refl
    flat_core (SwitchValue value_at choice) is told = let same : value_at ≡ pos = cc in rw (same, ← told) refl
    flat_core (ForItems loop) is told = let same : position_of loop.items ≡ pos = cc in rw (same, ← told) refl
    flat_core (AssignChain root chain op value_at) is told = let same : value_at ≡ pos = cc in rw (same, ← told) refl
    flat_core _ is told = cc

    flat_passes : (f : Frame H) → flattens f ≡ Some pos → (x : EvalAltResult H) →
        down_core rules.setting f x k l.local ≡ core (Fail x) k l.local
    flat_passes (StatementValue value_at) is x = refl
    flat_passes (DefineValue ident index options restoring value_at) is x = refl
    flat_passes (UnaryOperand operation operand_at) is x = refl
    flat_passes (LeftOperand operation left_at right) is x = refl
    flat_passes (RightOperand operation left right_at) is x = refl
    flat_passes (AssignValue assignment value_at) is x = refl
    flat_passes (AssignThisValue op this_at value_at) is x = refl
    flat_passes (ReturnValue value_at at) is x = refl
    flat_passes (ThrowValue value_at at) is x = refl
    flat_passes (SwitchValue value_at choice) is x = refl
    flat_passes (ForItems loop) is x = refl
    flat_passes (AssignChain root chain op value_at) is x = refl
    flat_passes _ is x = cc

    -- a value whose cell is held, or memory runs out
    pub flat_fails : (f : Frame H) → flattens f ≡ Some pos → (is_out_of_memory e ≡ false → Err e ≡ flat l.local.around.cells v pos) →
        Leads (machine rules) (cut rules) (at (Back v) (f ∷ k) l) (at (Fail e) k l)
    flat_fails f is told = fails_on v f k l e (flat_passes f is) (λ m. flat_core f is (told m))

  -- a `let`: refused, or on to its value
  module _ (ident : Ident) (value : Expr) (index : Option NonZeroUsize) (options : ASTFlags) (pos : Position) (restoring : Bool)
      (k : List (Frame H)) (l : State S H) where
    refused_core : (taken full : Bool) (e : EvalAltResult H) → Err e ≡ declarable ident.name pos taken full →
        define_core rules.setting taken full ident value index options restoring pos k l.local ≡ core (Fail e) k l.local
    refused_core true full e is = let same : e ≡ error.ErrorVariableExists ident.name pos = cc in
        ap (λ (x : EvalAltResult H). core (Fail x) k l.local) (sym same)
    refused_core false true e is = let same : e ≡ error.ErrorTooManyVariables pos = cc in
        ap (λ (x : EvalAltResult H). core (Fail x) k l.local) (sym same)
    refused_core false false e is = cc

    declared_core : (taken full : Bool) → Ok tt ≡ declarable {H = H} ident.name pos taken full →
        define_core rules.setting taken full ident value index options restoring pos k l.local ≡ core (Eval value)
        (DefineValue ident index options restoring (position_of value) ∷ k) l.local
    declared_core true full is = cc
    declared_core false true is = cc
    declared_core false false is = refl

    -- the name is taken, or the scope is full for a new one
    abbrev taken : Bool
    taken = is_taken rules.setting.offer.allow_shadowing ident.name l.local.scope

    abbrev full : Bool
    full = is_none index && is_full rules.setting.limits l.local.scope

    pub not_declared : (e : EvalAltResult H) → (is_out_of_memory e ≡ false → Err e ≡ declarable ident.name pos taken full) →
        Leads (machine rules) (cut rules) (at (OpenStmt (layer.Var ident value index options pos) restoring) k l) (at (Fail e) k l)
    not_declared e is = or_runs_out rules (OpenStmt (layer.Var ident value index options pos) restoring) k l e (λ m.
        step_by rules _ _ (Go (core (Fail e) k l.local)) (ap Go (refused_core taken full e (is m))) here)

    pub begins_value : Ok tt ≡ declarable {H = H} ident.name pos taken full →
        Leads (machine rules) (cut rules) (at (OpenStmt (layer.Var ident value index options pos) restoring) k l)
        (at (Eval value) (DefineValue ident index options restoring (position_of value) ∷ k) l)
    begins_value is = step_by rules _ _ (Go (core (Eval value) (DefineValue ident index options restoring (position_of value) ∷ k) l.local))
        (ap Go (declared_core taken full is)) here

pub still_none : {A : Type 0} (o : Option A) → is_some o ≡ false → o ≡ None
still_none None h = refl
still_none (Some x) h = cc

pub on_ok : {A E P : Type 0} (r : Result A E) → P → OnOk r P
on_ok (Ok v) p = p
on_ok (Err e) p = tt

-- what holds where a part went well holds of the result that tells it
pub on_done : {A E P : Type 0} (r : Result A E) (done : Bool) → OnOk r (done ≡ true) → (IsTrue done → P) → OnOk r P
on_done (Ok v) done is holds = holds (rw is refl)
on_done (Err e) done is holds = tt
