-- Whether a function's body was entered, by what its call came to.
use Rattle.std.proofs.Common.{◌≡◌, ◌≢◌, ◌<◌, ◌≤◌, ℕ, Bool, true, false, not, ◌&&◌, List, [], ◌∷◌, Err, length, refl, ap, ◌∙◌}
use Rattle.std.proofs.lemmas.Bool.{le-ltb, lt-ltb}
use Rattle.rhai_tree.specs.declared.expr.Stmt.{Stmt}
use Rattle.rhai_tree.specs.declared.function.ScriptFuncDef.{ScriptFuncDef}
use Rattle.rhai_tree.specs.declared.position.Position.{Position}
use Rattle.rhai_errors.specs.declared.error.EvalAltResult.{EvalAltResult}
use Rattle.rhai_state.specs.declared.limits.Limits.{Limits}
use Rattle.rhai_machine.specs.machine.Machine.{below}
use Rattle.rhai_machine.specs.language.Bodies.{statements_of}
use Rattle.rhai_bodies.specs.Opening.{enterable, entry, is_deep, is_full}
use Rattle.rhai_eval_steps.specs.Bodies.{has_statements, is_entered}

by_fault : {H : Type 0} (room deep full some : Bool) (pos : Position) (e : EvalAltResult H) → enterable deep full pos ≡ Err e →
    (room && (not deep && (not full && some))) ≡ false
by_fault false deep full some pos e is = refl
by_fault true true full some pos e is = refl
by_fault true false true some pos e is = refl
by_fault true false false some pos e is = cc

by_none : (room deep full : Bool) → (room && (not deep && (not full && false))) ≡ false
by_none false deep full = refl
by_none true true full = refl
by_none true false true = refl
by_none true false false = refl

by_all : (room deep full some : Bool) → room ≡ true → deep ≡ false → full ≡ false → some ≡ true →
    (room && (not deep && (not full && some))) ≡ true
by_all room deep full some has_room not_deep not_full has = rw (has_room, not_deep, not_full, has) refl

by_room : (room rest : Bool) → room ≡ false → (room && rest) ≡ false
by_room room rest none = rw none refl

some_there : (stmts : List Stmt) → stmts ≢ [] → has_statements stmts ≡ true
some_there [] some = absurd (some refl)
some_there (stmt ∷ stmts) some = refl

module _ (limits : Limits) (count level variables : ℕ) (def : ScriptFuncDef) where
  abbrev room : Bool
  room = below limits.max_operations count

  abbrev full : Bool
  full = is_full limits variables (length def.params)

  abbrev some : Bool
  some = has_statements (statements_of def.body)

  -- its call was refused
  pub entered_never : limits.max_operations ≤ count → is_entered limits count level variables def ≡ false
  entered_never spent = by_room room (not (is_deep limits level) && (not full && some)) (le-ltb _ _ spent)

  -- it was too deep, or there was no room for its parameters
  pub entered_not : {H : Type 0} (pos : Position) (e : EvalAltResult H) → entry limits level variables (length def.params) pos ≡ Err e →
      is_entered limits count level variables def ≡ false
  entered_not pos e is = by_fault room (is_deep limits level) full some pos e is

  -- it has no statements
  pub entered_nothing : statements_of def.body ≡ [] → is_entered limits count level variables def ≡ false
  entered_nothing none =
      ap (λ (stmts : List Stmt). room && (not (is_deep limits level) && (not full && has_statements stmts))) none
      ∙ by_none room (is_deep limits level) full

  -- and else it was entered
  pub entered_so : count < limits.max_operations → is_deep limits level ≡ false → full ≡ false → statements_of def.body ≢ [] →
      is_entered limits count level variables def ≡ true
  entered_so has_room not_deep not_full has =
      by_all room (is_deep limits level) full some (lt-ltb _ _ has_room) not_deep not_full (some_there (statements_of def.body) has)
