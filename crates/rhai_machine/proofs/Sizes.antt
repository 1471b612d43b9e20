-- How many moves without a charge a core can lead to at most. Each link of a chain that is left may be one that charges nothing.
use Rattle.std.proofs.Common.{arith}
use Rattle.std.specs.Prelude.{◌<◌, ◌≤◌, ℕ, ◌+◌, Bool, true, false, List, [], ◌∷◌, length, Result, Ok, Err, if◌then◌else◌, ◌*◌}
use Rattle.rhai_tree.specs.declared.expr.Expr.{out-Expr}
use Rattle.rhai_tree.specs.declared.expr.RangeCase.{RangeCase}
use Rattle.rhai_tree.specs.declared.expr.Stmt.{Stmt}
use Rattle.rhai_tree.specs.declared.expr.SwitchCase.{SwitchCase}
use Rattle.rhai_tree.specs.declared.expr.Expr.TheOpen as layer
use Rattle.rhai_tree.specs.Layers.{StmtLayer}
use Rattle.rhai_values.specs.declared.base.value.Dynamic.{Dynamic}
use Rattle.rhai_errors.specs.declared.error.EvalAltResult.{EvalAltResult}
use Rattle.rhai_errors.specs.Native.{Reply, Missing, Gives, Faults}
use Rattle.rhai_machine.specs.machine.Settling.{Falls}
use Rattle.rhai_machine.specs.language.State.{Local}
use Rattle.rhai_machine.specs.language.Frames.{Control, Frame, Core, where_there, on_value, ended, changed, Eval, Exec, Ask, Assign}
use Rattle.rhai_machine.specs.language.Frames.{AskUpdate, Argument, CallNamed, Question, Fire, QuestionUpdate, FireUpdate, OpenExpr}
use Rattle.rhai_machine.specs.language.Frames.{OpenStmt, Enter, Run, Store, StoreThis, WhileTurn, DoTurn, Back, Changed, Fail}
use Rattle.rhai_machine.specs.language.Frames.{StatementValue}
use Rattle.rhai_machine.specs.language.Frames.{DefineValue, IfCondition, RestOfList, RestoreList, Top, UnaryOperand, LeftOperand}
use Rattle.rhai_machine.specs.language.Frames.{RightOperand, AndPart, OrPart, CoalescePart, AssignValue, WhileCondition, WhileBody}
use Rattle.rhai_machine.specs.language.Frames.{DoCondition, DoBody, BreakValue, ReturnValue, ArrayItem, EntryValue, TextPart, PrintedPart}
use Rattle.rhai_machine.specs.language.Frames.{CallArgument, KeywordArgument, Purpose, ToChain, OpenChain, ChainArguments, ChainRoot}
use Rattle.rhai_machine.specs.language.Frames.{ReadRoot, Walk, Locate, AssignChain, AssignedChain, RootValue, ChainEnd, StepDown, Temporary}
use Rattle.rhai_machine.specs.language.Frames.{PartMethod, PartAssigned, Measured, MethodLink, MemberLink, MemberGot, MemberOperated}
use Rattle.rhai_machine.specs.language.Frames.{GetterTried, SetterTried, IndexerTried, MemberSet, EnterFunction}
use Rattle.rhai_machine.specs.language.Frames.{AssignThis, AssignThisValue, CallEnd, Choose, ForTurn, ForItem, Share, SwitchValue}
use Rattle.rhai_machine.specs.language.Frames.{SwitchCondition}
use Rattle.rhai_machine.specs.language.Frames.{ForItems, ForBody, ImportPath, RestoreScope, TryBody, CatchBranch, ThrowValue}
use Rattle.rhai_machine.specs.language.Calls.{answered}
use Rattle.rhai_machine.proofs.ChainLinks.{links, left_by}

-- the numbers of results that the cases of a `switch` have, and with them those of its ranges
abbrev pub numbers_in : List SwitchCase → ℕ
numbers_in [] = 0
numbers_in (case ∷ cases) = length case.blocks + numbers_in cases

abbrev pub all_numbers : List SwitchCase → List RangeCase → ℕ
all_numbers cases ranges = numbers_in cases + length ranges

-- what a statement weighs by its parts: an assignment by the links of what it assigns to, a `switch` by its numbers, and shared variables
-- by how many they are
abbrev pub parts_in : StmtLayer → ℕ
parts_in (layer.Assignment op lhs rhs) = links (out-Expr lhs)
parts_in (layer.Switch value results cases ranges default pos) = all_numbers cases ranges
parts_in (layer.Share variables) = length variables
parts_in _ = 0

-- an item of a `for` leads to its body, which is not empty where there is one
abbrev pub item_size : List Stmt → ℕ
item_size [] = 16
item_size (stmt ∷ stmts) = 12

module _ {H : Type 0} where
  -- How many moves without a charge a control can lead to at most, the frames below aside. A list that is not empty leads to a
  -- charge soon, and an error weighs more than a value: a `continue` starts a turn, and so does the value of a body that may be empty.
  -- A chain weighs by the links that are left, a `switch` by the results that it may have, and variables to be shared by their
  -- number.
  abbrev pub control_size : Control H → ℕ
  control_size (Eval e) = 0
  control_size (Exec stmt restoring) = 0
  control_size (Ask call) = 0
  control_size (Assign assignment v) = 0
  control_size (AskUpdate u) = 0
  control_size (Argument e) = 1
  control_size (EnterFunction e) = 0
  control_size (AssignThis op at v) = 0
  control_size (CallNamed operation curried args captures natives_alone) = 15
  control_size (Question call) = 13
  control_size (Fire call) = 12
  control_size (QuestionUpdate u) = 13
  control_size (FireUpdate u) = 12
  control_size (OpenExpr form) = 20 * links form + 40
  control_size (OpenStmt form restoring) = 20 * parts_in form + 50
  control_size (Enter [] restoring) = 9
  control_size (Enter (stmt ∷ stmts) restoring) = 5
  control_size (Run [] restoring last) = 9
  control_size (Run (stmt ∷ stmts) restoring last) = 3
  control_size (Store assignment v) = 12
  control_size (StoreThis op at v) = 12
  control_size (WhileTurn test body) = 7
  control_size (DoTurn test body options) = 11
  control_size (Choose candidates default) = length candidates + 10
  control_size (ForTurn loop left turn base) = 13
  control_size (ForItem loop item rest turn base) = item_size loop.body.statements
  control_size (Share variables) = length variables + 12
  control_size (OpenChain chain) = 20 * links chain.rest + 35
  control_size (ChainArguments chain rest made) = 0
  control_size (ChainRoot chain) = 20 * links chain.rest + 30
  control_size (ReadRoot variable chain) = 20 * links chain.rest + 30
  control_size (Walk chain) = 20 * links chain.rest + 20
  control_size (Locate link chain) = 20 * left_by link.behind + 20
  control_size (Back v) = 8
  control_size (Changed v) = 9
  control_size (Fail e) = 11

  -- what is done once the arguments are there
  abbrev pub purpose_size : Purpose H → ℕ
  purpose_size (ToChain chain behind) = 20 * links chain.rest + 20
  purpose_size _ = 0

  -- and how many more a frame can lead to, once a value or an error comes to it
  abbrev pub frame_size : Frame H → ℕ
  frame_size (StatementValue at) = 4
  frame_size (DefineValue ident index options restoring value_at) = 4
  frame_size (ImportPath alias path_at starts_at) = 4
  frame_size (IfCondition test_at body branch) = 4
  frame_size (RestOfList rest restoring) = 2
  frame_size (RestoreList saved) = 1
  frame_size (Top map_exit) = 4
  frame_size (UnaryOperand operation operand_at) = 4
  frame_size (LeftOperand operation left_at right) = 4
  frame_size (RightOperand operation left right_at) = 4
  frame_size (CallArgument purpose made argument_at rest) = purpose_size purpose + 8
  frame_size (KeywordArgument keyword call_at start rest captures) = 12
  frame_size (AndPart part_at rest) = 4
  frame_size (OrPart part_at rest) = 4
  frame_size (CoalescePart part_at rest) = 4
  frame_size (ArrayItem made item_at rest) = 4
  frame_size (EntryValue keys made value_at rest) = 4
  frame_size (TextPart text part_at rest) = 4
  frame_size (PrintedPart text type part_at rest) = 4
  frame_size (AssignValue assignment value_at) = 4
  frame_size (AssignThisValue op at value_at) = 4
  frame_size (WhileCondition test body) = 4
  frame_size (WhileBody test body) = 1
  frame_size (DoCondition test body options) = 4
  frame_size (DoBody test body options) = 1
  frame_size (SwitchValue value_at choice) = all_numbers choice.cases choice.ranges + 4
  frame_size (SwitchCondition candidate rest default) = length rest + 4
  frame_size (ForItems loop) = 8
  frame_size (ForBody loop rest turn base) = 6
  frame_size (RestoreScope length) = 1
  frame_size (TryBody variable branch) = 1
  frame_size (CatchBranch caught) = 1
  frame_size (BreakValue is_break at) = 4
  frame_size (ReturnValue value_at at) = 4
  frame_size (ThrowValue value_at at) = 4
  frame_size (AssignChain root chain op value_at) = 20 * links chain + 30
  frame_size AssignedChain = 1
  frame_size (RootValue chain) = 20 * links chain.rest + 20
  frame_size (ChainEnd lender outer) = 1
  frame_size (CallEnd exit) = 1
  frame_size (StepDown above step) = 1
  frame_size (Temporary above back) = 1
  frame_size (PartMethod above spot at) = 3
  frame_size (PartAssigned above spot at) = 4
  frame_size (Measured at) = 4
  frame_size (MethodLink chain) = 20 * links chain.rest + 20
  frame_size (MemberLink access chain) = 20 * links chain.rest + 20
  frame_size (MemberGot access root new) = 8
  frame_size (MemberOperated access above at) = 4
  frame_size (GetterTried access name) = 1
  frame_size (SetterTried access name value ignores) = 1
  frame_size (IndexerTried otherwise) = 1
  frame_size (MemberSet value) = 2

  abbrev pub stack_size : List (Frame H) → ℕ
  stack_size [] = 0
  stack_size (frame ∷ k) = frame_size frame + stack_size k

  abbrev pub size : Core H → ℕ
  size c = control_size c.control + stack_size c.stack

  -- a result that comes back to a smaller stack
  pub result_falls : (r : Result (Dynamic H) (EvalAltResult H)) (n m : ℕ) → 11 + m < n → control_size (ended r) + m < n
  result_falls (Ok v) n m lt = omega (arith, lt)
  result_falls (Err e) n m lt = lt

  pub purity_falls : (r : Result (Dynamic H) (EvalAltResult H)) (n m : ℕ) → 11 + m < n → control_size (changed r) + m < n
  purity_falls (Ok v) n m lt = omega (arith, lt)
  purity_falls (Err e) n m lt = lt

  pub reply_falls : (marks : Bool) (reply : Reply H) (r : Result (Dynamic H) (EvalAltResult H)) (n m : ℕ) → 11 + m < n →
      control_size (answered marks reply r) + m < n
  reply_falls false reply r n m lt = result_falls r n m lt
  reply_falls true (Gives v) r n m lt = purity_falls r n m lt
  reply_falls true Missing r n m lt = result_falls r n m lt
  reply_falls true (Faults e) r n m lt = result_falls r n m lt

  pub enter_size : (stmts : List Stmt) (restoring : Bool) (k : List (Frame H)) →
      control_size (Enter stmts restoring) + stack_size k ≤ 9 + stack_size k
  enter_size [] restoring k = omega arith
  enter_size (stmt ∷ stmts) restoring k = omega arith

  pub run_size : (stmts : List Stmt) (restoring : Bool) (last : Dynamic H) → control_size (Run stmts restoring last) ≤ 9
  run_size [] restoring last = omega arith
  run_size (stmt ∷ stmts) restoring last = omega arith

  -- a value leads to a smaller core, and so does an error
  pub on_below : {A : Type 0} (r : Result A (EvalAltResult H)) (go : A → Core H) (k : List (Frame H)) (l : Local H) (n : ℕ) →
      11 + stack_size k < n → ((x : A) → size (go x) < n) → size (on_value r go k l) < n
  on_below (Ok x) go k l n less h = h x
  on_below (Err e) go k l n less h = less

  pub on_falls : {A : Type 0} (r : Result A (EvalAltResult H)) (go : A → Core H) (k : List (Frame H)) (l : Local H) →
      ((x : A) → size (go x) < 12 + stack_size k) → size (on_value r go k l) < 12 + stack_size k
  on_falls r go k l h = on_below r go k l (12 + stack_size k) (omega arith) h

  pub wider_falls : {A : Type 0} (r : Result A (EvalAltResult H)) (go : A → Core H) (k : List (Frame H)) (l : Local H) →
      ((x : A) → size (go x) < 16 + stack_size k) → size (on_value r go k l) < 16 + stack_size k
  wider_falls r go k l h = on_below r go k l (16 + stack_size k) (omega arith) h

  -- a choice leads to a smaller core, and so does what has no step
  pub if_falls : (b : Bool) (c d : Core H) (n : ℕ) → size c < n → size d < n → size (if b then c else d) < n
  if_falls true c d n small other = small
  if_falls false c d n small other = other

  pub there_falls : (there : Bool) (c d : Core H) → size d < size c → Falls size c (where_there there d)
  there_falls true c d lt = lt
  there_falls false c d lt = tt
