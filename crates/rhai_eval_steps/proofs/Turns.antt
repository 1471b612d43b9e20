-- A list that is not empty has charged when its value, a `break` or a `continue` comes out of it.
use Rattle.std.proofs.Common.{◌≡◌, ◌≢◌, ◌<◌, ◌⊎◌, inl, inr, Bool, true, false, List, [], ◌∷◌, Result, Ok, Err, OnOk, refl, arith}
use Rattle.std.specs.Prelude.{⊤}
use Rattle.rhai_tree.specs.declared.position.Position.{Position}
use Rattle.rhai_tree.specs.declared.expr.Stmt.{Stmt, out-Stmt}
use Rattle.rhai_tree.specs.Positions.{stmt_position_of}
use Rattle.rhai_values.specs.declared.base.value.Dynamic.{Dynamic}
use Rattle.rhai_errors.specs.declared.error.EvalAltResult.{EvalAltResult}
use Rattle.rhai_errors.specs.declared.error.EvalAltResult.TheVariants as error
use Rattle.rhai_machine.specs.machine.Machine.{Move, Halt, Go}
use Rattle.rhai_machine.specs.machine.Unwinding.{Passes}
use Rattle.rhai_machine.specs.machine.Point.{Point, paid, after}
use Rattle.rhai_machine.specs.machine.Memory.{MemoryUnwinds, here, next, out_before_step, out_in_native, Leads}
use Rattle.rhai_machine.specs.language.Setting.{Rules, cut}
use Rattle.rhai_machine.specs.language.State.{State, Local}
use Rattle.rhai_machine.specs.language.Frames.{Control, Frame, Core, core, ended, Exec, Enter, Run, Back, Fail, OpenStmt, RestOfList}
use Rattle.rhai_machine.specs.language.Frames.{RestoreList}
use Rattle.rhai_machine.specs.language.Limits.{IsRefused}
use Rattle.rhai_machine.specs.language.Memory.{IsOutOfMemory}
use Rattle.rhai_machine.specs.language.Language.{machine, move_at}
use Rattle.rhai_machine.specs.language.Runs.{at, Runs, Goes}
use Rattle.rhai_machine.specs.language.Values.{unit_value}
use Rattle.rhai_machine.specs.language.Statements.{saved_by, deeper}
use Rattle.rhai_machine.proofs.LanguageLaws.{unwinds}
use Rattle.rhai_laws.proofs.MemoryLaws.{stays_out, counts}
use Rattle.rhai_laws.proofs.ScriptMemory.{memory_unwinds}
use Rattle.rhai_steps.specs.declared.loops.BodyEnd.{BodyEnd}
use Rattle.rhai_steps.specs.declared.loops.BodyEnd.TheVariants.{Done, Continue, Break}
use Rattle.rhai_steps.specs.Loops.{after_body, leaves_turn, turn_in}

-- a value has come back, or an error has come down
abbrev IsDone : {H : Type 0} → Control H → Type 0
IsDone (Back v) = ⊤
IsDone (Fail e) = ⊤
IsDone _ = ⊥

-- a value has come back
abbrev IsBack : {H : Type 0} → Control H → Type 0
IsBack (Back v) = ⊤
IsBack _ = ⊥

-- a body ended by a `break` or a `continue`
abbrev pub is_left : {H : Type 0} → BodyEnd H → Bool
is_left Done = false
is_left _ = true

-- a refused charge is on its way down, or that memory ran out
abbrev IsLost : {H : Type 0} → Core H → Type 0
IsLost c = IsRefused c ⊎ IsOutOfMemory c

-- that memory ran out is on its way down, or a value has come back to the empty stack
abbrev IsIdle : {H : Type 0} → Core H → Type 0
IsIdle c = IsOutOfMemory c ⊎ (IsBack c.control × (c.stack ≡ []))

module _ {S H : Type 0} (rules : Rules S H) where
  refused_lost : (m : Move H (Core H)) → Passes IsRefused m → Passes IsLost m
  refused_lost Halt p = tt
  refused_lost (Go c) p = inl p
  refused_lost _ p = p

  run_out_lost : (m : Move H (Core H)) → Passes IsOutOfMemory m → Passes IsLost m
  run_out_lost Halt p = tt
  run_out_lost (Go c) p = inr p
  run_out_lost _ p = p

  lost_stays : (c : Core H) → IsLost c → Passes IsLost ((machine rules).move c)
  lost_stays c (inl refused) = refused_lost ((machine rules).move c) ((unwinds rules).stays c refused)
  lost_stays c (inr wanted) = run_out_lost ((machine rules).move c) ((memory_unwinds rules).stays c wanted)

  lost : MemoryUnwinds (machine rules) IsLost
  lost = record { begins = λ at c. inr (at, refl); stays = lost_stays }

  run_out_idle : (m : Move H (Core H)) → Passes IsOutOfMemory m → Passes IsIdle m
  run_out_idle Halt p = tt
  run_out_idle (Go c) p = inl p
  run_out_idle _ p = p

  back_idle : (c : Control H) (k : List (Frame H)) (l : Local H) → IsBack c → k ≡ [] → Passes IsIdle (move_at rules.setting c k l)
  back_idle (Back v) k l back empty = rw empty tt
  back_idle _ k l back empty = absurd back

  idle_stays : (c : Core H) → IsIdle c → Passes IsIdle ((machine rules).move c)
  idle_stays c (inl wanted) = run_out_idle ((machine rules).move c) ((memory_unwinds rules).stays c wanted)
  idle_stays c (inr rests) = back_idle c.control c.stack c.local rests.0 rests.1

  idle : MemoryUnwinds (machine rules) IsIdle
  idle = record { begins = λ at c. inl (at, refl); stays = idle_stays }

  -- the run is lost, or there was a charge
  abbrev Charged : Point S (Core H) → Point S (Core H) → Type 0
  Charged p q = IsLost q.core ⊎ (p.count < q.count)

  stays_lost : {p q : Point S (Core H)} → Leads (machine rules) (cut rules) p q → IsLost p.core → IsLost q.core
  stays_lost steps is = stays_out (machine rules) (cut rules) IsLost lost steps is

  paid_charges : (lets : Bool) (at : Position) (d : Core H) (p q : Point S (Core H)) →
      Leads (machine rules) (cut rules) (paid (machine rules) lets at d p) q →
      Charged p q
  paid_charges true at d p q steps = inr (omega (arith, counts (machine rules) (cut rules) steps))
  paid_charges false at d p q steps = inl (stays_lost steps (inl (at, refl)))

  exec_charges : (stmt : Stmt) (restoring : Bool) (k : List (Frame H)) (l : State S H) {q : Point S (Core H)} → IsDone q.core.control →
      Leads (machine rules) (cut rules) (at (Exec stmt restoring) k l) q → Charged (at (Exec stmt restoring) k l) q
  unfolding after
  exec_charges stmt restoring k l done here = absurd done
  exec_charges stmt restoring k l {q} done (next steps) =
      paid_charges (cut rules l.count) (stmt_position_of stmt) (core (OpenStmt (out-Stmt stmt) restoring) k l.local)
      (at (Exec stmt restoring) k l) q steps
  exec_charges stmt restoring k l done (out_before_step {at = pos} steps) = inl (stays_lost steps (inr (pos, refl)))
  exec_charges stmt restoring k l done (out_in_native {at = pos} is e first state may steps) = inl (stays_lost steps (inr (pos, refl)))

  run_charges : (stmt : Stmt) (rest : List Stmt) (restoring : Bool) (last : Dynamic H) (k : List (Frame H)) (l : State S H)
      {q : Point S (Core H)} → IsDone q.core.control →
      Leads (machine rules) (cut rules) (at (Run (stmt ∷ rest) restoring last) k l) q →
      Charged (at (Run (stmt ∷ rest) restoring last) k l) q
  unfolding after
  run_charges stmt rest restoring last k l done here = absurd done
  run_charges stmt rest restoring last k l done (next steps) = exec_charges stmt restoring (RestOfList rest restoring ∷ k) l done steps
  run_charges stmt rest restoring last k l done (out_before_step {at = pos} steps) = inl (stays_lost steps (inr (pos, refl)))
  run_charges stmt rest restoring last k l done (out_in_native {at = pos} is e first state may steps) =
      inl (stays_lost steps (inr (pos, refl)))

  enter_charges : (stmt : Stmt) (rest : List Stmt) (l : State S H) {q : Point S (Core H)} → IsDone q.core.control →
      Leads (machine rules) (cut rules) (at (Enter (stmt ∷ rest) true) [] l) q → Charged (at (Enter (stmt ∷ rest) true) [] l) q
  unfolding after
  enter_charges stmt rest l done here = absurd done
  enter_charges stmt rest l done (next steps) =
      run_charges stmt rest true unit_value (RestoreList (saved_by l.local) ∷ []) (record l {
        local = record l.local
            { scope_level = deeper l.local.scope_level };
      }) done steps
  enter_charges stmt rest l done (out_before_step {at = pos} steps) = inl (stays_lost steps (inr (pos, refl)))
  enter_charges stmt rest l done (out_in_native {at = pos} is e first state may steps) = inl (stays_lost steps (inr (pos, refl)))

  empty_idles : (l : State S H) {q : Point S (Core H)} → IsDone q.core.control →
      Leads (machine rules) (cut rules) (at (Enter [] true) [] l) q → IsIdle q.core
  unfolding after
  empty_idles l done here = absurd done
  empty_idles l done (next steps) = stays_out (machine rules) (cut rules) IsIdle idle steps (inr (tt, refl))
  empty_idles l done (out_before_step {at = pos} steps) = stays_out (machine rules) (cut rules) IsIdle idle steps (inl (pos, refl))
  empty_idles l done (out_in_native {at = pos} is e first state may steps) = stays_out (machine rules) (cut rules) IsIdle idle steps
      (inl (pos, refl))

  done : (r : Result (Dynamic H) (EvalAltResult H)) → IsDone (ended r)
  done (Ok v) = tt
  done (Err e) = tt

  -- what is lost is no value, and no `break` or `continue`
  value_kept : (v : Dynamic H) (k : List (Frame H)) (l : Local H) → IsLost (core (Back v) k l) → ⊥
  value_kept v k l (inl (at, is)) = cc
  value_kept v k l (inr (at, is)) = cc

  way_kept : (e : EvalAltResult H) (k : List (Frame H)) (l : Local H) → leaves_turn e ≡ true → IsLost (core (Fail e) k l) → ⊥
  way_kept e k l leaves (inl (at, is)) = let same : e ≡ error.ErrorTooManyOperations at = cc in let no : leaves_turn e ≡ false =
      rw same refl in cc
  way_kept e k l leaves (inr (at, is)) = let same : e ≡ error.ErrorOutOfMemory at = cc in let no : leaves_turn e ≡ false =
      rw same refl in cc

  no_way : (e : EvalAltResult H) (l : Local H) → leaves_turn e ≡ true → IsIdle (core (Fail e) [] l) → ⊥
  no_way e l leaves (inl (at, is)) = way_kept e [] l leaves (inr (at, is))
  no_way e l leaves (inr rests) = rests.0

  -- a body that is not empty has charged when its turn ends
  ended_charges : (stmt : Stmt) (rest : List Stmt) (old new : State S H) (r : Result (Dynamic H) (EvalAltResult H)) →
      Charged (at (Enter (stmt ∷ rest) true) [] old) (at (ended r) [] new) →
      OnOk (after_body (turn_in r)) (old.count < new.count)
  ended_charges stmt rest old new (Ok v) (inl is) = absurd (value_kept v [] new.local is)
  ended_charges stmt rest old new (Ok v) (inr lt) = lt
  ended_charges stmt rest old new (Err (error.LoopBreak v false pos)) (inl is) =
      absurd (way_kept (error.LoopBreak v false pos) [] new.local refl is)
  ended_charges stmt rest old new (Err (error.LoopBreak v false pos)) (inr lt) = lt
  ended_charges stmt rest old new (Err (error.LoopBreak v true pos)) (inl is) =
      absurd (way_kept (error.LoopBreak v true pos) [] new.local refl is)
  ended_charges stmt rest old new (Err (error.LoopBreak v true pos)) (inr lt) = lt
  ended_charges stmt rest old new (Err e) charged = tt

  pub body_charges : (stmts : List Stmt) (old new : State S H) (r : Result (Dynamic H) (EvalAltResult H)) → stmts ≢ [] →
      Runs rules (Enter stmts true) old r new → OnOk (after_body (turn_in r)) (old.count < new.count)
  unfolding Goes
  body_charges [] old new r some runs = absurd (some refl)
  body_charges (stmt ∷ rest) old new r some runs = ended_charges stmt rest old new r (enter_charges stmt rest old (done r) (runs []))

  -- a `break` or a `continue` comes out of a body only after a charge
  leaves_after : (stmts : List Stmt) (old new : State S H) (e : EvalAltResult H) → leaves_turn e ≡ true →
      Leads (machine rules) (cut rules) (at (Enter stmts true) [] old) (at (Fail e) [] new) → old.count < new.count
  leaves_after [] old new e leaves steps = absurd (no_way e new.local leaves (empty_idles old tt steps))
  leaves_after (stmt ∷ rest) old new e leaves steps = elim (enter_charges stmt rest old tt steps) [
    | inl is ↦ absurd (way_kept e [] new.local leaves is)
    | inr lt ↦ lt
  ]

  leaves_charges : (stmts : List Stmt) (old new : State S H) (e : EvalAltResult H) → leaves_turn e ≡ true →
      Runs rules (Enter stmts true) old (Err e) new → old.count < new.count
  unfolding Goes
  leaves_charges stmts old new e leaves runs = leaves_after stmts old new e leaves (runs [])

  -- a body that ended by a `break` or a `continue` has charged
  pub left_charges : (stmts : List Stmt) (old new : State S H) (r : Result (Dynamic H) (EvalAltResult H)) (b : BodyEnd H) →
      Ok b ≡ turn_in r → is_left b ≡ true →
      Runs rules (Enter stmts true) old r new → old.count < new.count
  left_charges stmts old new (Ok v) Done is left runs = cc
  left_charges stmts old new (Ok v) Continue is left runs = cc
  left_charges stmts old new (Ok v) (Break w) is left runs = cc
  left_charges stmts old new (Err (error.LoopBreak v false pos)) b is left runs =
      leaves_charges stmts old new (error.LoopBreak v false pos) refl runs
  left_charges stmts old new (Err (error.LoopBreak v true pos)) b is left runs =
      leaves_charges stmts old new (error.LoopBreak v true pos) refl runs
  left_charges stmts old new (Err e) b is left runs = cc
