-- The rules of loops.
use Rattle.std.specs.Prelude.{Bool, true, false, not, List, [], ◌∷◌, Result, Ok, Err}
use Rattle.rhai_machine.specs.Types.{EvalAltResult, Expr, Stmt, StmtBlock}
use Rattle.rhai_tree.specs.declared.expr.Expr.TheOpen as layer
use Rattle.rhai_tree.specs.Layers.{ExprLayer}
use Rattle.rhai_errors.specs.declared.error.EvalAltResult.TheVariants as error
use Rattle.rhai_machine.specs.machine.Machine.{Move, Go, Charge}
use Rattle.rhai_machine.specs.language.State.{Local}
use Rattle.rhai_machine.specs.language.Values.{unit_value}
use Rattle.rhai_machine.specs.language.Frames.{Control, Frame, Core, core, Eval, Enter, WhileTurn, Back, Fail, WhileCondition, WhileBody}

-- whether a `while` has no condition, or the literal `true` as one
abbrev pub is_endless : ExprLayer → Bool
is_endless (layer.BoolConstant b pos) = b
is_endless (layer.Unit pos) = true
is_endless _ = false

-- whether a `do` goes on after its condition: an `until` where it does not hold, and a `while` where it does
abbrev pub goes_on : (until holds : Bool) → Bool
goes_on true holds = not holds
goes_on false holds = holds

module _ {H : Type 0} where
  -- a turn of a `while`: its condition is evaluated; without one the body is entered, or charged where it is empty
  abbrev pub while_move : (endless : Bool) → List Stmt → Expr → StmtBlock → List (Frame H) → Local H → Move H (Core H)
  while_move false stmts test body k l = Go (core (Eval test) (WhileCondition test body ∷ k) l)
  while_move true [] test body k l = Charge body.position (core (WhileTurn test body) k l)
  while_move true (stmt ∷ stmts) test body k l = Go (core (Enter (stmt ∷ stmts) true) (WhileBody test body ∷ k) l)

  -- after the condition of a `while`: where it holds the body is entered, and else the loop ends with `()`
  abbrev pub while_core : Bool → Expr → StmtBlock → List (Frame H) → Local H → Core H
  while_core true test body k l = core (Enter body.statements true) (WhileBody test body ∷ k) l
  while_core false test body k l = core (Back unit_value) k l

  -- the next turn where a loop goes on, and else its end with `()`
  abbrev pub if_goes_on : Bool → Control H → Control H
  if_goes_on true turn = turn
  if_goes_on false turn = Back unit_value

  -- after the condition of a `do`: its next turn or its end with `()`; an error comes down
  abbrev pub do_control : Result Bool (EvalAltResult H) → (until : Bool) → (turn : Control H) → Control H
  do_control (Ok holds) until turn = if_goes_on (goes_on until holds) turn
  do_control (Err e) until turn = Fail e

  -- what comes of an error in a body: `continue` starts the next turn, `break` ends the loop with its value, and any other comes down
  abbrev pub caught : (turn : Control H) → EvalAltResult H → Control H
  caught turn (error.LoopBreak v false at) = turn
  caught turn (error.LoopBreak v true at) = Back v
  caught turn e = Fail e
