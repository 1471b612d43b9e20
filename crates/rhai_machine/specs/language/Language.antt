-- The machine of the language.
use Rattle.std.specs.Prelude.{true, List, [], ◌∷◌}
use Rattle.rhai_machine.specs.Types.{out-Expr, Position}
use Rattle.rhai_tree.specs.declared.expr.Stmt.{out-Stmt}
use Rattle.rhai_tree.specs.Positions.{position_of, stmt_position_of}
use Rattle.rhai_errors.specs.declared.error.EvalAltResult.TheVariants as error
use Rattle.rhai_machine.specs.machine.Machine.{Move, Halt, Go, Charge, Machine}
use Rattle.rhai_machine.specs.language.Setting.{Setting, Rules, globals_of}
use Rattle.rhai_machine.specs.language.State.{Local}
use Rattle.rhai_machine.specs.language.Frames.{Control, Frame, Core, core, Eval, Exec, Ask, Assign, AskUpdate, Argument, Question, Fire}
use Rattle.rhai_machine.specs.language.Frames.{QuestionUpdate, FireUpdate, OpenExpr, OpenStmt, Enter, Run, Store, StoreThis, WhileTurn}
use Rattle.rhai_machine.specs.language.Frames.{DoTurn, Back}
use Rattle.rhai_machine.specs.language.Frames.{Changed, Fail, DoBody, CallNamed, EnterFunction, AssignThis, OpenChain}
use Rattle.rhai_machine.specs.language.Frames.{ChainArguments, ChainRoot}
use Rattle.rhai_machine.specs.language.Frames.{ReadRoot, Walk, Locate, Choose, ForTurn, ForItem, Share}
use Rattle.rhai_machine.specs.language.Links.{link_of}
use Rattle.rhai_machine.specs.language.Chains.{asked_move, locate_core, open_move, read_root_core, root_move, walk_move}
use Rattle.rhai_machine.specs.language.Expressions.{literal_of, argument_move, expr_move}
use Rattle.rhai_machine.specs.language.Bodies.{opened_function}
use Rattle.rhai_machine.specs.language.Calls.{question_move, fire_move}
use Rattle.rhai_machine.specs.language.Arguments.{named_move}
use Rattle.rhai_machine.specs.language.Places.{target_of}
use Rattle.rhai_machine.specs.language.Assignment.{store_core, store_this, question_update, fire_update, variable_of_assignment}
use Rattle.rhai_machine.specs.language.Turns.{next_turn}
use Rattle.rhai_machine.specs.language.Choices.{choose_core}
use Rattle.rhai_machine.specs.language.Loops.{is_endless, while_move}
use Rattle.rhai_machine.specs.language.Walks.{for_move, item_core}
use Rattle.rhai_machine.specs.language.Sharing.{share_core}
use Rattle.rhai_machine.specs.language.Statements.{enter_core, run_core, stmt_move}
use Rattle.rhai_machine.specs.language.Unwinding.{up_core, down_core, changed_up_core}

module _ {H : Type 0} (s : Setting H) where
  -- one move, by the control; a charge stands at its position before anything else of a form is done
  abbrev pub move_at : Control H → List (Frame H) → Local H → Move H (Core H)
  move_at (Eval e) k l = Charge (position_of e) (core (OpenExpr (out-Expr e)) k l)
  move_at (Exec stmt restoring) k l = Charge (stmt_position_of stmt) (core (OpenStmt (out-Stmt stmt) restoring) k l)
  move_at (Ask call) k l = Charge call.operation.at (core (Question call) k l)
  move_at (EnterFunction e) k l = Charge e.at (opened_function s.limits e k l)
  move_at (Assign assignment v) k l = Charge assignment.at (core (Store assignment v) k l)
  move_at (AssignThis op at v) k l = Charge at (core (StoreThis op at v) k l)
  move_at (AskUpdate u) k l = Charge u.at (core (QuestionUpdate u) k l)
  move_at (Argument e) k l = argument_move (literal_of (out-Expr e)) e k l
  move_at (CallNamed operation curried args captures natives_alone) k l =
      named_move s operation curried args captures natives_alone k l
  move_at (Question call) k l = question_move s call call.args k l
  move_at (Fire call) k l = fire_move s call call.args k l
  move_at (QuestionUpdate u) k l = question_update s u k l
  move_at (FireUpdate u) k l = fire_update s u.target.value u k l
  move_at (OpenExpr form) k l = expr_move s s.offer.fast_operators form k l
  move_at (OpenStmt form restoring) k l = stmt_move s form restoring k l
  move_at (Enter stmts restoring) k l = Go (enter_core stmts restoring k l)
  move_at (Run stmts restoring last) k l = Go (run_core stmts restoring last k l)
  move_at (Store assignment v) k l = Go (store_core s
      (target_of (globals_of s.offer) l.around l.scope (variable_of_assignment assignment)) assignment v k l)
  move_at (StoreThis op at v) k l = Go (store_this s op at v k l)
  move_at (WhileTurn test body) k l = while_move (is_endless (out-Expr test)) body.statements test body k l
  move_at (DoTurn test body options) k l = Go (core (Enter body.statements true) (DoBody test body options ∷ k) l)
  move_at (Choose candidates default) k l = Go (choose_core candidates default k l)
  move_at (ForTurn loop left turn base) k l = for_move (next_turn left) loop.body.statements loop turn base k l
  move_at (ForItem loop item rest turn base) k l = Go (item_core loop item rest turn base k l)
  move_at (Share variables) k l = Go (share_core variables k l)
  move_at (OpenChain chain) k l = open_move (link_of chain.rest) chain k l
  move_at (ChainArguments chain rest made) k l = asked_move s (link_of rest) chain made k l
  move_at (ChainRoot chain) k l = root_move (out-Expr chain.root) chain k l
  move_at (ReadRoot variable chain) k l = Go (read_root_core (globals_of s.offer) variable chain k l)
  move_at (Walk chain) k l = walk_move s (link_of chain.rest) chain k l
  move_at (Locate link chain) k l = Go (locate_core s link chain k l)
  move_at (Back v) [] l = Halt
  move_at (Back v) (frame ∷ k) l = Go (up_core s frame v k l)
  move_at (Changed v) [] l = Go (core (Back v) [] l)
  move_at (Changed v) (frame ∷ k) l = Go (changed_up_core s frame v k l)
  move_at (Fail e) [] l = Halt
  move_at (Fail e) (frame ∷ k) l = Go (down_core s frame e k l)

  -- one move of a core
  abbrev pub move : Core H → Move H (Core H)
  move c = move_at c.control c.stack c.local

-- where a charge is refused, its error comes down from the position of the charge
abbrev pub refuse : {H : Type 0} → Position → Core H → Core H
refuse pos c = core (Fail (error.ErrorTooManyOperations pos)) c.stack c.local

-- where memory runs out, the error of that comes down from this position
abbrev pub without_memory : {H : Type 0} → Position → Core H → Core H
without_memory pos c = core (Fail (error.ErrorOutOfMemory pos)) c.stack c.local

-- the machine of the language, under its rules
abbrev pub machine : {S H : Type 0} → Rules S H → Machine S H (Core H)
machine rules = record {
  move = move rules.setting;
  refuse = refuse;
  without_memory = without_memory;
  natives = rules.natives;
  host =
      rules.setting.host_type;
}
