-- How a body's outcome leads its loop on.
use Rattle.std.proofs.Common.{◌≡◌, ◌≢◌, ◌<◌, ◌≤◌, ◌+◌, Bool, [], true, false, List, ◌∷◌, Option, Some, None, Result, Ok, Err, refl, sym}
use Rattle.std.proofs.Common.{subst, ◌∙◌, ℕ}
use Rattle.std.proofs.lemmas.Bool.{lt-ltb, le-ltb}
use Rattle.std.specs.Prelude.{IsTrue, OnOk}
use Rattle.rhai_tree.specs.declared.position.Position.{Position}
use Rattle.rhai_tree.specs.declared.expr.Expr.{Expr, out-Expr}
use Rattle.rhai_tree.specs.declared.expr.Stmt.{Stmt}
use Rattle.rhai_tree.specs.declared.expr.Expr.TheOpen as layer
use Rattle.rhai_tree.specs.Positions.{position_of}
use Rattle.rhai_tree.specs.declared.expr.StmtBlock.{StmtBlock}
use Rattle.rhai_tree.specs.declared.flags.ASTFlags.{ASTFlags}
use Rattle.rhai_values.specs.declared.base.value.Dynamic.{Dynamic}
use Rattle.rhai_errors.specs.declared.error.EvalAltResult.{EvalAltResult}
use Rattle.rhai_errors.specs.declared.error.EvalAltResult.TheVariants as error
use Rattle.rhai_state.specs.declared.scope.Scope.{Scope}
use Rattle.rhai_lookups.specs.declared.run.RunState.{RunState}
use Rattle.rhai_errors.specs.Errors.{is_out_of_memory}
use Rattle.rhai_machine.specs.machine.Machine.{Machine, Move, Halt, Go, Charge, Native, AskPure, below}
use Rattle.rhai_machine.specs.machine.Point.{Point, moved, after}
use Rattle.rhai_machine.specs.machine.Memory.{Leads, here, next, out_before_step, out_in_native}
use Rattle.rhai_machine.specs.language.Setting.{Rules, limit_under, cut}
use Rattle.rhai_machine.specs.language.State.{Held, State, Local}
use Rattle.rhai_machine.specs.language.Frames.{Control, Frame, Core, core, ended, OpenStmt, Eval, Enter, WhileTurn, DoTurn, Back, Fail}
use Rattle.rhai_machine.specs.language.Frames.{WhileCondition, WhileBody, DoBody, DoCondition, BreakValue, ReturnValue, ThrowValue}
use Rattle.rhai_machine.specs.language.Loops.{is_endless, while_move}
use Rattle.rhai_machine.specs.language.Statements.{has_option, return_move}
use Rattle.rhai_machine.specs.language.Values.{flat, unit_value}
use Rattle.rhai_machine.specs.language.Runs.{at}
use Rattle.rhai_machine.specs.language.Language.{machine}
use Rattle.rhai_steps.specs.declared.loops.BodyEnd.{BodyEnd}
use Rattle.rhai_steps.specs.declared.loops.BodyEnd.TheVariants.{Done, Continue, Break}
use Rattle.rhai_steps.specs.Loops.{turn_in, after_body, after_turn}
use Rattle.rhai_steps.specs.States.{state_of}
use Rattle.rhai_steps.proofs.Pieces.{or_runs_out, step_by}
use Rattle.rhai_context.specs.Ends.{came, came_turn}
use Rattle.rhai_stmt.specs.Leaving.{left_with}
use Rattle.rhai_eval_steps.proofs.Chain.{flattens}

module _ {S H C : Type 0} (M : Machine S H C) (limit : ℕ) where
  full_step : (v : Move H C) (p : Point S C) → limit ≤ p.count → (moved M (below limit) v p).count ≡ p.count
  full_step Halt p full = refl
  full_step (Go d) p full = refl
  full_step (Charge at d) p full = rw (le-ltb _ _ full) refl
  full_step (Native q f) p full = refl
  full_step (AskPure q f) p full = refl

  -- where the count has reached the limit it stays
  pub stays_full : {p q : Point S C} → Leads M (below limit) p q → limit ≤ p.count → q.count ≡ p.count
  unfolding after
  stays_full here full = refl
  stays_full (next {p = p} steps) full =
      let same : (moved M (below limit) (M.move p.core) p).count ≡ p.count = full_step (M.move p.core) p full in
      stays_full steps (subst (λ (n : ℕ). limit ≤ n) (sym same) full) ∙ same
  stays_full (out_before_step steps) full = stays_full steps full
  stays_full (out_in_native is e first state may steps) full = stays_full steps full

-- a turn that ends its loop ends it by what it came to
pub turn_ended : {H : Type 0} (done : Bool) (v : Dynamic H) (e : Option (EvalAltResult H)) (turn : Control H) →
    after_turn (came_turn (Some done) v e) turn ≡ ended (came done v e)
turn_ended true v e turn = refl
turn_ended false v e turn = refl

-- and what holds of it then holds where it went well
pub on_end : {H P : Type 0} (done : Bool) (v : Dynamic H) (e : Option (EvalAltResult H)) → OnOk (came_turn (Some done) v e) P →
    IsTrue done → P
on_end true v e p well = p
on_end false v e p well = cc

module _ {S H : Type 0} (rules : Rules S H) where
  -- a body's end at its `while`
  pub while_ends : (r : Result (Dynamic H) (EvalAltResult H)) (test : Expr) (body : StmtBlock) (k : List (Frame H)) (l : State S H) →
      Leads (machine rules) (cut rules) (at (ended r) (WhileBody test body ∷ k) l)
      (at (after_turn (after_body (turn_in r)) (WhileTurn test body)) k l)
  unfolding after
  while_ends (Ok v) test body k l = next here
  while_ends (Err (error.LoopBreak v false pos)) test body k l = next here
  while_ends (Err (error.LoopBreak v true pos)) test body k l = next here
  while_ends (Err e) test body k l = next here

  -- where a body's end leads a `do`: on to its condition, to its next turn, or out of it
  abbrev pub do_goes : Result (BodyEnd H) (EvalAltResult H) → Expr → StmtBlock → ASTFlags → List (Frame H) → State S H → Point S (Core H)
  do_goes (Ok Done) test body options k l = at (Eval test) (DoCondition test body options ∷ k) l
  do_goes (Ok Continue) test body options k l = at (DoTurn test body options) k l
  do_goes (Ok (Break v)) test body options k l = at (Back v) k l
  do_goes (Err e) test body options k l = at (Fail e) k l

  do_ends : (r : Result (Dynamic H) (EvalAltResult H)) (test : Expr) (body : StmtBlock) (options : ASTFlags) (k : List (Frame H))
      (l : State S H) →
      Leads (machine rules) (cut rules) (at (ended r) (DoBody test body options ∷ k) l) (do_goes (turn_in r) test body options k l)
  unfolding after
  do_ends (Ok v) test body options k l = next here
  do_ends (Err (error.LoopBreak v false pos)) test body options k l = next here
  do_ends (Err (error.LoopBreak v true pos)) test body options k l = next here
  do_ends (Err e) test body options k l = next here

  pub do_leads : (r : Result (Dynamic H) (EvalAltResult H)) (test : Expr) (body : StmtBlock) (options : ASTFlags) (k : List (Frame H))
      (l : State S H) (x : Result (BodyEnd H) (EvalAltResult H)) →
      turn_in r ≡ x → Leads (machine rules) (cut rules) (at (ended r) (DoBody test body options ∷ k) l) (do_goes x test body options k l)
  do_leads r test body options k l x is =
      subst (λ (y : Result (BodyEnd H) (EvalAltResult H)). Leads (machine rules) (cut rules) (at (ended r) (DoBody test body options ∷ k) l)
      (do_goes y test body options k l)) is (do_ends r test body options k l)

  module _ (test : Expr) (body : StmtBlock) (k : List (Frame H)) where
    -- a turn with a condition begins with it
    pub while_asks : (l : State S H) → is_endless (out-Expr test) ≡ false →
        Leads (machine rules) (cut rules) (at (WhileTurn test body) k l) (at (Eval test) (WhileCondition test body ∷ k) l)
    unfolding after
    while_asks l is = next (rw is here)

    entered : (stmts : List Stmt) (l : Local H) → stmts ≢ [] →
        while_move true stmts test body k l ≡ Go (core (Enter stmts true) (WhileBody test body ∷ k) l)
    entered [] l some = absurd (some refl)
    entered (stmt ∷ stmts) l some = refl

    -- one without a condition with its body
    pub endless_enters : (l : State S H) → is_endless (out-Expr test) ≡ true → body.statements ≢ [] →
        Leads (machine rules) (cut rules) (at (WhileTurn test body) k l) (at (Enter body.statements true) (WhileBody test body ∷ k) l)
    endless_enters l is some = step_by rules _ _ (Go (core (Enter body.statements true) (WhileBody test body ∷ k) l.local))
        (rw is (entered body.statements l.local some)) here

    -- an empty body is charged, or its charge is refused
    pub endless_charged : (t : S) (old mid : RunState H) (scope : Scope H) (held : Held H) →
        old.num_operations < limit_under rules → mid ≡ record old { num_operations = old.num_operations + 1 } →
        is_endless (out-Expr test) ≡ true → body.statements ≡ [] →
        Leads (machine rules) (cut rules) (at (WhileTurn test body) k (state_of t old scope held))
        (at (WhileTurn test body) k (state_of t mid scope held))
    unfolding after
    endless_charged t old mid scope held room charged is empty = next (rw (is, empty, lt-ltb _ _ room, charged) here)

    pub endless_refused : (t : S) (old new : RunState H) (scope : Scope H) (held : Held H) (x : EvalAltResult H) →
        limit_under rules ≤ old.num_operations → x ≡ error.ErrorTooManyOperations body.position → new ≡ old →
        is_endless (out-Expr test) ≡ true → body.statements ≡ [] →
        Leads (machine rules) (cut rules) (at (WhileTurn test body) k (state_of t old scope held))
        (at (Fail x) k (state_of t new scope held))
    unfolding after
    endless_refused t old new scope held x full refused same is empty = next (rw (is, empty, le-ltb _ _ full, refused, same) here)

  -- a `break` without a value
  pub breaks_unit : (options : ASTFlags) (is_break : Bool) (v : Dynamic H) (e : EvalAltResult H) (pos : Position) (restoring : Bool)
      (k : List (Frame H)) (l : State S H) →
      is_break ≡ has_option 2 options → v ≡ unit_value → (is_out_of_memory e ≡ false → e ≡ error.LoopBreak v is_break pos) →
      Leads (machine rules) (cut rules) (at (OpenStmt (layer.BreakLoop None options pos) restoring) k l) (at (Fail e) k l)
  unfolding after
  breaks_unit options is_break v e pos restoring k l asked unit told =
      or_runs_out rules (OpenStmt (layer.BreakLoop None options pos) restoring) k l e (λ m. next (rw (told m, unit, asked) here))

  -- one with a value
  pub breaks_value : (value : Expr) (options : ASTFlags) (pos : Position) (restoring : Bool) (k : List (Frame H)) (l : State S H) →
      Leads (machine rules) (cut rules) (at (OpenStmt (layer.BreakLoop (Some value) options pos) restoring) k l)
      (at (Eval value) (BreakValue (has_option 2 options) pos ∷ k) l)
  unfolding after
  breaks_value value options pos restoring k l = next here

  -- ---- a `return` or a `throw`, without a value and with one

  left_unit : (throws : Bool) (pos : Position) (k : List (Frame H)) (l : Local H) →
      return_move throws None pos k l ≡ Go (core (Fail (left_with throws unit_value pos)) k l)
  left_unit true pos k l = refl
  left_unit false pos k l = refl

  pub returns_unit : (options : ASTFlags) (pos : Position) (restoring : Bool) (k : List (Frame H)) (l : State S H) →
      Leads (machine rules) (cut rules) (at (OpenStmt (layer.Return None options pos) restoring) k l)
      (at (Fail (left_with (has_option 2 options) unit_value pos)) k l)
  returns_unit options pos restoring k l =
      step_by rules _ _ (Go (core (Fail (left_with (has_option 2 options) unit_value pos)) k l.local))
      (left_unit (has_option 2 options) pos k l.local) here

  -- the frame that waits for its value
  abbrev pub leaving : (throws : Bool) → (value_at left_at : Position) → Frame H
  leaving true value_at left_at = ThrowValue value_at left_at
  leaving false value_at left_at = ReturnValue value_at left_at

  pub leaving_flattens : (throws : Bool) (value_at left_at : Position) → flattens rules (leaving throws value_at left_at) ≡ Some value_at
  leaving_flattens true value_at left_at = refl
  leaving_flattens false value_at left_at = refl

  pub leaving_passes : (throws : Bool) (value_at left_at : Position) (e : EvalAltResult H) (k : List (Frame H)) (l : State S H) →
      Leads (machine rules) (cut rules) (at (Fail e) (leaving throws value_at left_at ∷ k) l) (at (Fail e) k l)
  unfolding after
  leaving_passes true value_at left_at e k l = next here
  leaving_passes false value_at left_at e k l = next here

  left_value : (throws : Bool) (value : Expr) (pos : Position) (k : List (Frame H)) (l : Local H) →
      return_move throws (Some value) pos k l ≡ Go (core (Eval value) (leaving throws (position_of value) pos ∷ k) l)
  left_value true value pos k l = refl
  left_value false value pos k l = refl

  pub returns_value : (value : Expr) (options : ASTFlags) (pos : Position) (restoring : Bool) (k : List (Frame H)) (l : State S H) →
      Leads (machine rules) (cut rules) (at (OpenStmt (layer.Return (Some value) options pos) restoring) k l)
      (at (Eval value) (leaving (has_option 2 options) (position_of value) pos ∷ k) l)
  returns_value value options pos restoring k l =
      step_by rules _ _ (Go (core (Eval value) (leaving (has_option 2 options) (position_of value) pos ∷ k) l.local))
      (left_value (has_option 2 options) value pos k l.local) here

  -- its value is there
  pub leaves : (throws : Bool) (v x : Dynamic H) (value_at left_at : Position) (k : List (Frame H)) (l : State S H) →
      Ok x ≡ flat l.local.around.cells v value_at →
      Leads (machine rules) (cut rules) (at (Back v) (leaving throws value_at left_at ∷ k) l) (at (Fail (left_with throws x left_at)) k l)
  unfolding after
  leaves true v x value_at left_at k l is = next (rw (← is) here)
  leaves false v x value_at left_at k l is = next (rw (← is) here)
