-- The machine's controls and frames: what it does next, and what waits below for the value or the error that comes of it.
use Rattle.std.specs.Prelude.{ℕ, Bool, true, false, List, [], ◌∷◌, Option, Result, Ok, Err}
use Rattle.std.specs.declared.num.NonZeroUsize.{NonZeroUsize}
use Rattle.rhai_machine.specs.Types.{ASTFlags, ConditionalExpr, Dynamic, EvalAltResult, Expr, FnPtr, Ident, OpAssignment, Position, Stmt}
use Rattle.rhai_machine.specs.Types.{StmtBlock}
use Rattle.rhai_machine.specs.Types.{SharedVariable, Token}
use Rattle.rhai_tree.specs.declared.expr.MapEntry.{MapEntry}
use Rattle.rhai_tree.specs.Layers.{ExprLayer, StmtLayer}
use Rattle.rhai_machine.specs.machine.Machine.{Move, Halt, Go}
use Rattle.rhai_spots.specs.declared.spot.Spot.{Spot}
use Rattle.rhai_spots.specs.Paths.{Step}
use Rattle.rhai_machine.specs.language.State.{Local}
use Rattle.rhai_machine.specs.language.Places.{Place}
use Rattle.rhai_machine.specs.language.Links.{Link}
use Rattle.rhai_machine.specs.language.Functions.{Function}
use Rattle.rhai_machine.specs.language.Variables.{Path, Variable}
use Rattle.rhai_machine.specs.language.Activations.{Entered, CallExit}
use Rattle.rhai_machine.specs.language.Cases.{Cases}
use Rattle.rhai_machine.specs.language.Turns.{ForLoop, Turns}

-- what a call is of: its name, its operator where it was written as one, and where it stands
pub record Operation : Type 0 where
  pub name : List ℕ
  pub token : Option Token
  pub at : Position

-- who lends the first argument of a call, or the root of a chain: the entry of a variable, `this`, or a chain its focus
pub data Lender : Type 0 where
  FromEntry : (index : ℕ) → Lender
  FromThis : Lender
  FromFocus : Lender

-- How a call by name is dispatched: whether its first argument is the focus of a method, whether natives alone are asked, whether a
-- function of a script runs on the caller's variables, and the path in front of the name, behind which it means a function of a script
-- alone.
pub record Dispatch : Type 0 where
  pub of_method : Bool
  pub natives_alone : Bool
  pub on_scope : Bool
  pub path : Path

-- A call with its arguments: of a native by its name, or by a number. A first argument that is lent goes back to its lender. Where the call
-- is guarded, a constant is kept from a native that is not pure. Where `marks` is so, its answer says whether the native may have changed
-- the first argument: once the table was asked, it is so only where the native is not pure.
pub record Call (H : Type 0) : Type 0 where
  pub operation : Operation
  pub number : Option ℕ
  pub args : List (Dynamic H)
  pub lender : Option Lender
  pub guarded : Bool
  pub marks : Bool

-- the words by which a call is no function's, where it was not written as an operator
pub data Keyword : Type 0 where
  -- `call`
  CallPointer : Keyword
  -- `Fn`
  MakePointer : Keyword
  -- `curry`
  Curry : Keyword
  -- `is_shared`
  IsShared : Keyword
  -- `is_def_var`
  IsDefinedVariable : Keyword

-- what an assignment to a chain gives: by an operator or not, and the value on the right
pub record NewValue (H : Type 0) : Type 0 where
  pub op : OpAssignment
  pub value : Dynamic H

-- A chain on its way: its root, what it assigns if it does, what is left of it, the arguments that are left, and whether its focus counts
-- as a place, or else as a temporary.
pub record Chain (H : Type 0) : Type 0 where
  pub root : Expr
  pub new : Option (NewValue H)
  pub rest : ExprLayer
  pub args : List (Dynamic H)
  pub in_place : Bool

-- what natives get and set in a value: a property by its name, or an item by an index of any type
pub data Member (H : Type 0) : Type 0 where
  Property : (name : List ℕ) → (at : Position) → Member H
  Item : (index : Dynamic H) → Member H

-- a member as natives get and set it: where the operator stands, and whether a constant is kept from a native that is not pure
pub record MemberAccess (H : Type 0) : Type 0 where
  pub member : Member H
  pub at : Position
  pub guarded : Bool

-- what the arguments of a call are for, once all of them are there
pub data Purpose (H : Type 0) : Type 0 where
  -- a call by name, with the values that a pointer has already
  ToCall : Operation → (curried : List (Dynamic H)) → (how : Dispatch) → Purpose H
  -- a call by name on a variable, which is read last and stands before the arguments
  ToCallOn : Operation → Variable → (how : Dispatch) → Purpose H
  -- a call by name on `this`, which is lent and stands before the arguments
  ToCallOnThis : Operation → (this_at : Position) → (how : Dispatch) → Purpose H
  -- a call of the function that a pointer is linked to
  ToCallFunction : Function H → (at : Position) → (curried : List (Dynamic H)) → Purpose H
  -- a call of a native by its number
  ToCallNumber : (number : ℕ) → Operation → (curried : List (Dynamic H)) → Purpose H
  -- a pointer that keeps them
  ToCurry : FnPtr H → Purpose H
  -- a chain, with what is left of it behind the link that asks for them
  ToChain : Chain H → (behind : Option ExprLayer) → Purpose H

-- an assignment to a variable: its name with the path in front of it, where it stands, and how the value is assigned
pub record Assignment : Type 0 where
  pub path : Path
  pub name : List ℕ
  pub at : Position
  pub op : OpAssignment

-- which native an assignment by an operator asks for: `op=`, which changes the target, or `op`, which gives its new value
pub data Attempt : Type 0 where
  InPlace : Attempt
  AsValue : Attempt

-- An assignment by an operator, once its target is found: which native is asked, the operator and where it stands, the place and the value
-- there, the value on the right, and where the target stands in the script.
pub record Update (H : Type 0) : Type 0 where
  pub attempt : Attempt
  pub operator : Token
  pub at : Position
  pub place : Place
  pub target : Dynamic H
  pub operand : Dynamic H
  pub target_at : Position

-- what a restoring list takes back at its end: the scope's length, the number of imports, and how deep the restoring lists were
pub record Saved : Type 0 where
  pub scope_length : ℕ
  pub imports_length : ℕ
  pub scope_level : ℕ

-- what is done next
pub data Control (H : Type 0) : Type 0 where
  -- an expression, which is charged
  Eval : Expr → Control H
  -- a statement of a list that restores or not, which is charged
  Exec : Stmt → (restoring : Bool) → Control H
  -- the native of a call, which is charged
  Ask : Call H → Control H
  -- a call by name, before its arguments: a variable or a `this` that comes first is charged
  CallNamed : Operation → (curried : List (Dynamic H)) → (args : List Expr) → (captures natives_alone : Bool) → Control H
  -- a function of a script, which is charged and then entered
  EnterFunction : Entered H → Control H
  -- an assignment whose value is there: its variable is charged
  Assign : Assignment → Dynamic H → Control H
  -- an assignment to `this` whose value is there: `this` is charged
  AssignThis : OpAssignment → (at : Position) → Dynamic H → Control H
  -- the native of an update, which is charged
  AskUpdate : Update H → Control H
  -- an argument of a call: a literal is charged, and anything else is an expression
  Argument : Expr → Control H
  -- the table is asked whether the native of a call is pure
  Question : Call H → Control H
  -- the native of a call is called
  Fire : Call H → Control H
  -- the table is asked whether the native of an update is pure
  QuestionUpdate : Update H → Control H
  -- the native of an update is called
  FireUpdate : Update H → Control H
  -- an expression goes on by its form, once it is charged
  OpenExpr : ExprLayer → Control H
  -- a statement goes on by its form, once it is charged
  OpenStmt : StmtLayer → (restoring : Bool) → Control H
  -- a list of statements is entered, which restores or not
  Enter : List Stmt → (restoring : Bool) → Control H
  -- the rest of a list, after the value of the statement before
  Run : List Stmt → (restoring : Bool) → (last : Dynamic H) → Control H
  -- an assignment to a variable, once that is charged
  Store : Assignment → Dynamic H → Control H
  -- an assignment to `this`, once that is charged
  StoreThis : OpAssignment → (at : Position) → Dynamic H → Control H
  -- a turn of a `while`
  WhileTurn : (test : Expr) → (body : StmtBlock) → Control H
  -- a turn of a `do`
  DoTurn : (test : Expr) → (body : StmtBlock) → (options : ASTFlags) → Control H
  -- the results that a `switch` may choose, in order, and its default
  Choose : (candidates : List ConditionalExpr) → (default : Option Expr) → Control H
  -- a turn of a `for`, by its number, with the turns that are left and where its variables begin in the scope
  ForTurn : (loop : ForLoop) → (left : Turns H) → (turn base : ℕ) → Control H
  -- the item of a turn of a `for`, once the turn is counted
  ForItem : (loop : ForLoop) → (item : Dynamic H) → (rest : Turns H) → (turn base : ℕ) → Control H
  -- the variables that closures share, one after the other
  Share : List SharedVariable → Control H
  -- a chain is entered
  OpenChain : Chain H → Control H
  -- the arguments of the links that are left, after those that are there
  ChainArguments : Chain H → (rest : ExprLayer) → (made : List (Dynamic H)) → Control H
  -- the root of a chain, once the arguments of its links are there
  ChainRoot : Chain H → Control H
  -- the variable that is a chain's root, once it is charged
  ReadRoot : Variable → Chain H → Control H
  -- the next link of a chain, which works on the focus
  Walk : Chain H → Control H
  -- a link that is charged: what its index or its key leads to in the focus
  Locate : Link → Chain H → Control H
  -- a value comes up to the frame below
  Back : Dynamic H → Control H
  -- a value comes up of a call that may have changed its first argument, or of an assignment in a chain
  Changed : Dynamic H → Control H
  -- an error comes down to the frame below
  Fail : EvalAltResult H → Control H

-- what waits below for a value or an error
pub data Frame (H : Type 0) : Type 0 where
  -- the value of an expression statement
  StatementValue : Position → Frame H
  -- the value of a `let` or of a `const`
  DefineValue : (ident : Ident) → (index : Option NonZeroUsize) → (options : ASTFlags) → (restoring : Bool) →
      (value_at : Position) → Frame H
  -- the path of an `import`
  ImportPath : (alias : Option Ident) → (path_at : Position) → (starts_at : Position) → Frame H
  -- the condition of an `if`
  IfCondition : (test_at : Position) → (body branch : StmtBlock) → Frame H
  -- a statement's value, before the rest of its list
  RestOfList : (rest : List Stmt) → (restoring : Bool) → Frame H
  -- the end of a restoring list
  RestoreList : Saved → Frame H
  -- the end of a whole script, where an exit may be asked to give its value
  Top : (map_exit : Bool) → Frame H
  -- the operand of a unary operator
  UnaryOperand : (operation : Operation) → (operand_at : Position) → Frame H
  -- the left operand of a binary operator, before the right one
  LeftOperand : (operation : Operation) → (left_at : Position) → (right : Expr) → Frame H
  -- the right operand of a binary operator, after the left one
  RightOperand : (operation : Operation) → (left : Dynamic H) → (right_at : Position) → Frame H
  -- an argument of a call, after those that are there and before the others
  CallArgument : Purpose H → (made : List (Dynamic H)) → (argument_at : Position) → (rest : List Expr) → Frame H
  -- the first argument of a keyword, before the others
  KeywordArgument : Keyword → (at start : Position) → (rest : List Expr) → (captures : Bool) → Frame H
  -- a part of an `&&`, before the others
  AndPart : (part_at : Position) → (rest : List Expr) → Frame H
  -- a part of an `||`, before the others
  OrPart : (part_at : Position) → (rest : List Expr) → Frame H
  -- a part of a `??`, before the others
  CoalescePart : (part_at : Position) → (rest : List Expr) → Frame H
  -- an item of an array, after those that are there and before the others
  ArrayItem : (made : List (Dynamic H)) → (item_at : Position) → (rest : List Expr) → Frame H
  -- the value of a map's entry, after those that are there and before the others, with the keys of all entries
  EntryValue : (keys : List (List ℕ)) → (made : List (Dynamic H)) → (value_at : Position) → (rest : List MapEntry) → Frame H
  -- a part of a text, after the text that is there and before the other parts
  TextPart : (text : List ℕ) → (part_at : Position) → (rest : List Expr) → Frame H
  -- a part of a text that a native prints; where that gives no text, its type is written
  PrintedPart : (text type : List ℕ) → (part_at : Position) → (rest : List Expr) → Frame H
  -- the value of an assignment to a variable
  AssignValue : (assignment : Assignment) → (value_at : Position) → Frame H
  -- the value of an assignment to `this`
  AssignThisValue : (op : OpAssignment) → (at value_at : Position) → Frame H
  -- the condition of a `while`
  WhileCondition : (test : Expr) → (body : StmtBlock) → Frame H
  -- the body of a `while`
  WhileBody : (test : Expr) → (body : StmtBlock) → Frame H
  -- the condition of a `do`
  DoCondition : (test : Expr) → (body : StmtBlock) → (options : ASTFlags) → Frame H
  -- the body of a `do`
  DoBody : (test : Expr) → (body : StmtBlock) → (options : ASTFlags) → Frame H
  -- the value of a `switch`
  SwitchValue : (value_at : Position) → (choice : Cases) → Frame H
  -- the condition of a result of a `switch`, before the results that may be chosen after it
  SwitchCondition : (candidate : ConditionalExpr) → (rest : List ConditionalExpr) → (default : Option Expr) → Frame H
  -- what a `for` walks
  ForItems : (loop : ForLoop) → Frame H
  -- the body of a `for` in a turn, before the turns that are left
  ForBody : (loop : ForLoop) → (rest : Turns H) → (turn base : ℕ) → Frame H
  -- the end of a statement whose variables leave the scope, which had this length before
  RestoreScope : (length : ℕ) → Frame H
  -- the body of a `try`, before its branch
  TryBody : (variable : Expr) → (branch : StmtBlock) → Frame H
  -- the branch of a `try`, with the error that was caught
  CatchBranch : (caught : EvalAltResult H) → Frame H
  -- the value of a `break` or a `continue`
  BreakValue : (is_break : Bool) → (at : Position) → Frame H
  -- the value of a `return`
  ReturnValue : (value_at at : Position) → Frame H
  -- the value of a `throw`
  ThrowValue : (value_at at : Position) → Frame H
  -- the value that is assigned to a chain
  AssignChain : (root : Expr) → (chain : ExprLayer) → (op : OpAssignment) → (value_at : Position) → Frame H
  -- the end of an assignment to a chain
  AssignedChain : Frame H
  -- the root of a chain that is no variable and no `this`
  RootValue : Chain H → Frame H
  -- the end of a chain: its focus goes back to who lent the root, and the focus before it comes back
  ChainEnd : (lender : Option Lender) → (outer : Option (Dynamic H)) → Frame H
  -- the focus is where a step leads from the value above, and goes back there
  StepDown : (above : Dynamic H) → (step : Step) → Frame H
  -- the focus is a temporary of the value above; where it has a way back and may have changed, natives set it there
  Temporary : (above : Option (Dynamic H)) → (back : Option (MemberAccess H)) → Frame H
  -- the focus is a part of the value above, on which a method is called; a part that may have changed is put back
  PartMethod : (above : Dynamic H) → (spot : Spot) → (at : Position) → Frame H
  -- the focus is a part of the value above, which is assigned to and put back
  PartAssigned : (above : Dynamic H) → (spot : Spot) → (at : Position) → Frame H
  -- the focus is assigned to, and measured then
  Measured : (at : Position) → Frame H
  -- the value of a method, which is the next focus of its chain
  MethodLink : Chain H → Frame H
  -- the value of a member, which is the next focus of its chain
  MemberLink : MemberAccess H → Chain H → Frame H
  -- the value of a member, which is assigned to by an operator
  MemberGot : MemberAccess H → (root : Expr) → NewValue H → Frame H
  -- the end of an assignment by an operator to a member's value, which is set then
  MemberOperated : MemberAccess H → (above : Option (Dynamic H)) → (at : Position) → Frame H
  -- a getter; where it is missing the indexer is tried
  GetterTried : MemberAccess H → (name : List ℕ) → Frame H
  -- a setter; where it is missing the indexer is tried, whose absence may be ignored
  SetterTried : MemberAccess H → (name : List ℕ) → (value : Dynamic H) → (ignores : Bool) → Frame H
  -- an indexer, with what comes of its absence
  IndexerTried : (otherwise : Result (Dynamic H) (EvalAltResult H)) → Frame H
  -- the end of a set, after which this value comes up as that of a change
  MemberSet : (value : Dynamic H) → Frame H
  -- the end of a function's call
  CallEnd : CallExit H → Frame H

-- what the language adds to a configuration: control, stack and local state
pub record Core (H : Type 0) : Type 0 where
  pub control : Control H
  pub stack : List (Frame H)
  pub local : Local H

module _ {H : Type 0} where
  -- a core of a control, a stack and a local state
  abbrev pub core : Control H → List (Frame H) → Local H → Core H
  core control stack local = record { control = control; stack = stack; local = local }

  -- a core of a control over a frame
  abbrev pub core_over : Control H → Frame H → List (Frame H) → Local H → Core H
  core_over control frame stack local = core control (frame ∷ stack) local

  -- a chain over its root, before anything of it is done
  abbrev pub chain_on : (root : Expr) → ExprLayer → Option (NewValue H) → Chain H
  chain_on root chain new = record { root = root; new = new; rest = chain; args = []; in_place = false }

  -- a step to this core where it is allowed; elsewhere there is none
  abbrev pub where_there : Bool → Core H → Move H (Core H)
  where_there true c = Go c
  where_there false c = Halt

  -- a result goes on with its value, and its error comes down
  abbrev pub on_value : {A : Type 0} → Result A (EvalAltResult H) → (A → Core H) → List (Frame H) → Local H → Core H
  on_value (Ok v) go k l = go v
  on_value (Err e) go k l = core (Fail e) k l

  -- a result as a control: its value comes up, or its error comes down
  abbrev pub ended : Result (Dynamic H) (EvalAltResult H) → Control H
  ended (Ok v) = Back v
  ended (Err e) = Fail e

  -- a result as a control, of what may have changed its first argument
  abbrev pub changed : Result (Dynamic H) (EvalAltResult H) → Control H
  changed (Ok v) = Changed v
  changed (Err e) = Fail e

  -- a result as a control that says whether the first argument may have changed
  abbrev pub ended_or_changed : Result (Dynamic H × Bool) (EvalAltResult H) → Control H
  ended_or_changed (Ok (v, true)) = Changed v
  ended_or_changed (Ok (v, false)) = Back v
  ended_or_changed (Err e) = Fail e
