-- Each entry into a function charges, and so does each turn of a loop.
use Rattle.std.proofs.Common.{refl, inl, inr, ap, subst, sym, arith}
use Rattle.std.specs.Prelude.{◌≡◌, ◌⊎◌, ◌<◌, ◌^◌, ◌+◌, ℕ, pos, nat_le, Bool, true, false, List, [], ◌∷◌, Option, Some, None, IsSome}
use Rattle.std.specs.Prelude.{Result, Ok, Err}
use Rattle.rhai_tree.specs.declared.expr.Expr.{out-Expr, Expr}
use Rattle.rhai_tree.specs.declared.expr.Ident.{Ident}
use Rattle.rhai_tree.specs.declared.expr.Stmt.{Stmt}
use Rattle.rhai_tree.specs.declared.expr.StmtBlock.{StmtBlock}
use Rattle.rhai_tree.specs.declared.flags.ASTFlags.{ASTFlags}
use Rattle.rhai_tree.specs.declared.position.Position.{Position}
use Rattle.rhai_tree.specs.Positions.{position_of}
use Rattle.rhai_values.specs.declared.base.value.Dynamic.{Dynamic}
use Rattle.rhai_errors.specs.declared.error.EvalAltResult.{EvalAltResult}
use Rattle.rhai_errors.specs.declared.error.EvalAltResult.TheVariants as error
use Rattle.rhai_machine.specs.machine.Machine.{Charge}
use Rattle.rhai_machine.specs.machine.Point.{Point, paid, moved, after}
use Rattle.rhai_machine.specs.machine.Memory.{Leads, here, next, out_before_step, out_in_native}
use Rattle.rhai_machine.specs.language.Setting.{Rules}
use Rattle.rhai_machine.specs.language.State.{State, deeper}
use Rattle.rhai_machine.specs.language.Bodies.{opened_function}
use Rattle.rhai_machine.specs.language.Turns.{ForLoop, Turns, next_turn, integer_value}
use Rattle.rhai_machine.specs.language.Frames.{Control, Frame, Core, core, on_value, Eval, Exec, EnterFunction, Enter, Run, WhileTurn}
use Rattle.rhai_machine.specs.language.Frames.{DoTurn, ForTurn, ForItem, Back, Fail, RestOfList, RestoreList, WhileCondition, WhileBody}
use Rattle.rhai_machine.specs.language.Frames.{DoCondition, DoBody, ForBody}
use Rattle.rhai_machine.specs.language.Loops.{is_endless, while_move}
use Rattle.rhai_machine.specs.language.Places.{Place, put}
use Rattle.rhai_machine.specs.language.Statements.{saved_by}
use Rattle.rhai_machine.specs.language.Values.{flat, unit_value}
use Rattle.rhai_machine.specs.language.Walks.{counters, counter_overflow, counted_core, entered_core, for_move, place_of_entry, turn_core}
use Rattle.rhai_machine.specs.language.Language.{move, machine}
use Rattle.rhai_machine.specs.language.Runs.{at, with_core}
use Rattle.rhai_limits.specs.Charging.{IsStopped, StartsTurn, EndsTurn, StaysBeneath, IsUnentered, HasCharged, EntriesCharge, TurnsCharge}
use Rattle.rhai_limits.proofs.Stopped.{counts, stays_stopped, follows_charge}
use Rattle.rhai_limits.proofs.Leaving.{no_more, stays_failed}

module _ {S H : Type 0} (rules : Rules S H) where
  pub entries_charge : EntriesCharge rules
  unfolding after
  entries_charge allows e k old q run = follows_charge rules allows (allows old.count) e.at
      (opened_function rules.setting.limits e k old.local) (at (EnterFunction e) k old) q run

-- an error is on its way down
abbrev IsFailed : {H : Type 0} → Core H → Type 0
IsFailed {H} c = (e : EvalAltResult H) × (c.control ≡ Fail e)

-- how a turn is over at q: more is charged than n; it is stopped; or it has failed, as U says
data Over {S H : Type 0} (n : ℕ) (q : Point S (Core H)) (U : Type 0) : Type 0 where
  charged : n < q.count → Over n q U
  stopped : IsStopped q.core → Over n q U
  unentered : IsFailed q.core → U → Over n q U

-- a run from a turn over the frames k to a point q over them where the turn is over
module _ {S H : Type 0} (rules : Rules S H) (allows : ℕ → Bool) (k : List (Frame H)) (q : Point S (Core H))
    (ends : EndsTurn q.core.control) (level : q.core.stack ≡ k) where
  abbrev Reached : Point S (Core H) → Type 0
  Reached p = Leads (machine rules) allows p q

  -- on the way from a point to q, with k beneath, the count comes to be greater than this, or the turn is stopped, or fails as U says
  abbrev Grows : (U : Type 0) → ℕ → Point S (Core H) → Type 0
  Grows U n p = (run : Reached p) → StaysBeneath rules allows k run → Over n q U

  -- it fails where it stands, or a step further
  abbrev FailsBy : Point S (Core H) → Type 0
  FailsBy p = (q ≡ p) ⊎ (q ≡ after (machine rules) allows p)

  by_charge : (U : Type 0) (b : Bool) (position : Position) (d : Core H) (p : Point S (Core H)) →
      Reached (paid (machine rules) b position d p) → Over p.count q U
  by_charge U true position d p run = charged (omega (arith, counts (machine rules) allows run))
  by_charge U false position d p run = stopped (stays_stopped rules allows run (inl (position, refl)))

  -- what is not yet where the turn is over
  abbrev IsApart : Core H → Type 0
  IsApart c = EndsTurn c.control → c.stack ≡ k → ⊥

  -- from there the run takes a step
  onward : (U : Type 0) (n : ℕ) (r : Point S (Core H)) → IsApart r.core → Grows U n (after (machine rules) allows r) → Grows U n r
  onward U n r apart rest here stays = absurd (apart ends level)
  onward U n r apart rest (next run) stays = rest run stays.1
  onward U n r apart rest (out_before_step {at = position} run) stays =
      stopped (stays_stopped rules allows run (inr (position, refl)))
  onward U n r apart rest (out_in_native {at = position} is e first state left run) stays =
      stopped (stays_stopped rules allows run (inr (position, refl)))

  -- and where that is a charge the count grows
  at_charge : (U : Type 0) (r : Point S (Core H)) (position : Position) (d : Core H) → move rules.setting r.core ≡ Charge position d →
      IsApart r.core → Grows U r.count r
  unfolding after
  at_charge U r position d is apart = onward U r.count r apart
      (λ run stays. by_charge U (allows r.count) position d r (subst (λ v. Reached (moved (machine rules) allows v r)) is run))

  -- a list that has a statement charges
  list_charges : (U : Type 0) (stmt : Stmt) (stmts : List Stmt) (j : List (Frame H)) (s : State S H) →
      Grows U s.count (at (Enter (stmt ∷ stmts) true) j s)
  unfolding after
  list_charges U stmt stmts j s =
      let inner : State S H = record s { local = record s.local { scope_level = deeper s.local.scope_level } } in
      let end : List (Frame H) = RestoreList (saved_by s.local) ∷ j in
      onward U s.count (at (Enter (stmt ∷ stmts) true) j s) (λ ends same. absurd ends)
      (onward U s.count (at (Run (stmt ∷ stmts) true unit_value) end inner) (λ ends same. absurd ends)
      (at_charge U (at (Exec stmt true) (RestOfList stmts true ∷ end) inner) _ _ refl (λ ends same. absurd ends)))

  some_list_charges : (U : Type 0) (list : List Stmt) (stmt : Stmt) (stmts : List Stmt) → list ≡ stmt ∷ stmts → (j : List (Frame H))
      (s : State S H) → Grows U s.count (at (Enter list true) j s)
  some_list_charges U [] stmt stmts is j s = cc
  some_list_charges U (first ∷ rest) stmt stmts is j s = list_charges U first rest j s

  -- ---- `while` and `loop`

  while_charges : (endless : Bool) (stmts : List Stmt) (test : Expr) (body : StmtBlock) (s : State S H) →
      Grows ⊥ s.count (moved (machine rules) allows (while_move endless stmts test body k s.local) (at (WhileTurn test body) k s))
  while_charges false stmts test body s =
      at_charge ⊥ (at (Eval test) (WhileCondition test body ∷ k) s) _ _ refl (λ ends same. absurd ends)
  while_charges true [] test body s =
      λ run stays. by_charge ⊥ (allows s.count) body.position (core (WhileTurn test body) k s.local) (at (WhileTurn test body) k s) run
  while_charges true (stmt ∷ stmts) test body s = list_charges ⊥ stmt stmts (WhileBody test body ∷ k) s

  -- ---- `do`

  do_charges : (stmts : List Stmt) (test : Expr) (body : StmtBlock) (options : ASTFlags) (s : State S H) →
      Grows ⊥ s.count (at (Enter stmts true) (DoBody test body options ∷ k) s)
  unfolding after
  do_charges [] test body options s =
      let body_end : Frame H = DoBody test body options in
      onward ⊥ s.count (at (Enter [] true) (body_end ∷ k) s) (λ ends same. absurd ends)
      (onward ⊥ s.count (at (Back unit_value) (body_end ∷ k) s) (λ ends same. no_more [] k body_end (sym same))
      (at_charge ⊥ (at (Eval test) (DoCondition test body options ∷ k) s) _ _ refl (λ ends same. absurd ends)))
  do_charges (stmt ∷ stmts) test body options s = list_charges ⊥ stmt stmts (DoBody test body options ∷ k) s

  -- ---- `for`

  failed_at : (U : Type 0) (n : ℕ) (e : EvalAltResult H) (s : State S H) → (q ≡ at (Fail e) k s → U) →
      (q ≡ at (Fail e) k s) ⊎ IsStopped q.core → Over n q U
  failed_at U n e s told (inl same) = unentered (e, ap (λ (p : Point S (Core H)). p.core.control) same) (told same)
  failed_at U n e s told (inr is) = stopped is

  fails : (U : Type 0) (e : EvalAltResult H) (s : State S H) → (q ≡ at (Fail e) k s → U) → Grows U s.count (at (Fail e) k s)
  fails U e s told run stays = failed_at U s.count e s told (stays_failed rules allows e k s run stays)

  on_value_charges : (U : Type 0) {A : Type 0} (r : Result A (EvalAltResult H)) (go : A → Core H) (s : State S H) →
      (q ≡ with_core (on_value r go k s.local) s → U) →
      ((x : A) → (q ≡ with_core (go x) s → U) → Grows U s.count (with_core (go x) s)) →
      Grows U s.count (with_core (on_value r go k s.local) s)
  on_value_charges U (Ok x) go s told charges = charges x told
  on_value_charges U (Err e) go s told charges = fails U e s told

  -- a turn with its item, of a loop whose body has a statement
  module _ (loop : ForLoop) (stmt : Stmt) (stmts : List Stmt) (is : loop.body.statements ≡ stmt ∷ stmts) (item : Dynamic H) (rest : Turns H)
      (turn base : ℕ) where
    entered_charges : (U : Type 0) (v : Dynamic H) (s : State S H) →
        (q ≡ with_core (entered_core loop v rest turn base k s.local) s → U) →
        Grows U s.count (with_core (entered_core loop v rest turn base k s.local) s)
    entered_charges U v s told =
        on_value_charges U (place_of_entry loop.variable.name loop.variable.pos (base + counters loop.counter) s.local)
        (λ place. core (Enter loop.body.statements true) (ForBody loop rest turn base ∷ k) (put place v s.local)) s told
        (λ place same. some_list_charges U loop.body.statements stmt stmts is (ForBody loop rest turn base ∷ k)
        (record s { local = put place v s.local }))

    item_charges : (s : State S H) → Grows (FailsBy (at (ForItem loop item rest turn base) k s)) s.count
        (at (ForItem loop item rest turn base) k s)
    unfolding after
    item_charges s =
        let U : Type 0 = FailsBy (at (ForItem loop item rest turn base) k s) in
        onward U s.count (at (ForItem loop item rest turn base) k s) (λ ends same. absurd ends)
        (on_value_charges U (flat s.local.around.cells item (position_of loop.items))
        (λ v. entered_core loop v rest turn base k s.local) s (λ same. inr same) (λ v told. entered_charges U v s told))

    placed_charges : (r : Result Place (EvalAltResult H)) (s : State S H) →
        let d : Core H = on_value r (λ place. core (ForItem loop item rest turn base) k (put place (integer_value (pos turn)) s.local)) k
        s.local in
        Grows (FailsBy (with_core d s)) s.count (with_core d s)
    placed_charges (Ok place) s = item_charges (record s { local = put place (integer_value (pos turn)) s.local })
    placed_charges (Err e) s = fails (FailsBy (at (Fail e) k s)) e s (λ same. inl same)

    counted_charges : (counter : Option Ident) (s : State S H) →
        let d : Core H = counted_core counter loop turn base (λ l. core (ForItem loop item rest turn base) k l) k s.local in
        Grows (FailsBy (with_core d s)) s.count (with_core d s)
    counted_charges None s = item_charges s
    counted_charges (Some counter) s = placed_charges (place_of_entry counter.name loop.variable.pos base s.local) s

    turn_charges : (overflows : Bool) (s : State S H) →
        let d : Core H = turn_core overflows loop item rest turn base k s.local in
        Grows (FailsBy (with_core d s)) s.count (with_core d s)
    turn_charges true s =
        let e : EvalAltResult H = error.ErrorArithmetic counter_overflow loop.variable.pos in
        fails (FailsBy (at (Fail e) k s)) e s (λ same. inl same)
    turn_charges false s = counted_charges loop.counter s

  for_charges : (following : Option (Dynamic H × Turns H)) → IsSome following → (stmts : List Stmt) (loop : ForLoop) →
      loop.body.statements ≡ stmts → (left : Turns H) (turn base : ℕ) (s : State S H) →
      let p : Point S (Core H) = moved (machine rules) allows (for_move following stmts loop turn base k s.local)
      (at (ForTurn loop left turn base) k s) in
      Grows (FailsBy p) s.count p
  for_charges None some stmts loop is left turn base s = cc
  for_charges (Some (item, rest)) some [] loop is left turn base s =
      let after_it : Core H = core (ForTurn loop rest (turn + 1) base) k s.local in
      λ run stays. by_charge _ (allows s.count) loop.body.position after_it (at (ForTurn loop left turn base) k s) run
  for_charges (Some (item, rest)) some (stmt ∷ stmts) loop is left turn base s =
      turn_charges loop stmt stmts is item rest turn base (nat_le (2 ^ 63) turn) s

  -- ---- each loop

  each_turn_charges : (turn : Control H) (s : State S H) → StartsTurn turn →
      Grows (IsUnentered rules allows turn (at turn k s) q) s.count (after (machine rules) allows (at turn k s))
  unfolding after
  each_turn_charges (WhileTurn test body) s starts = while_charges (is_endless (out-Expr test)) body.statements test body s
  each_turn_charges (DoTurn test body options) s starts = do_charges body.statements test body options s
  each_turn_charges (ForTurn loop left turn base) s starts =
      for_charges (next_turn left) starts loop.body.statements loop refl left turn base s
  each_turn_charges _ s starts = absurd starts

module _ {S H : Type 0} (rules : Rules S H) (allows : ℕ → Bool) (turn : Control H) (k : List (Frame H)) (old new : State S H) where
  -- where no error is on its way the turn has charged
  grown : (c : Control H) → ((e : EvalAltResult H) → c ≡ Fail e → ⊥) → {U : Type 0} → Over old.count (at c k new) U → old.count < new.count
  grown c never (charged more) = more
  grown c never (stopped (inl refused)) = absurd (never (error.ErrorTooManyOperations refused.0) refused.1)
  grown c never (stopped (inr is_out)) = absurd (never (error.ErrorOutOfMemory is_out.0) is_out.1)
  grown c never (unentered failed told) = absurd (never failed.0 failed.1)

  failed : (e : EvalAltResult H) → Over old.count (at (Fail e) k new) (IsUnentered rules allows turn (at turn k old) (at (Fail e) k new)) →
      HasCharged rules allows turn (Fail e) k old new
  failed e (charged more) = inl more
  failed e (stopped is) = inr (inl is)
  failed e (unentered is told) = inr (inr told)

  has_charged : (later : Control H) → EndsTurn later →
      Over old.count (at later k new) (IsUnentered rules allows turn (at turn k old) (at later k new)) →
      HasCharged rules allows turn later k old new
  has_charged (WhileTurn test body) ends over = grown (WhileTurn test body) (λ e is. cc) over
  has_charged (DoTurn test body options) ends over = grown (DoTurn test body options) (λ e is. cc) over
  has_charged (ForTurn loop left number base) ends over = grown (ForTurn loop left number base) (λ e is. cc) over
  has_charged (Back v) ends over = grown (Back v) (λ e is. cc) over
  has_charged (Fail e) ends over = failed e over
  has_charged _ ends over = absurd ends

module _ {S H : Type 0} (rules : Rules S H) where
  pub turns_charge : TurnsCharge rules
  turns_charge allows turn later k old new starts ends run stays = has_charged rules allows turn k old new later ends
      (each_turn_charges rules allows k (at later k new) ends refl turn old starts run stays)
