-- Small words for the trees of sample scripts. A script stands on one line, so each position is a column.
use Rattle.std.specs.Prelude.{ℕ, ◌+◌, pos, Bool, true, false, List, [], ◌∷◌, Option, Some, None}
use Rattle.std.specs.declared.num.NonZeroUsize.{NonZeroUsize}
use Rattle.rhai_machine.specs.Types.{ConditionalExpr, Expr, Ident, Position, RangeCase, SharedVariable, Stmt, StmtBlock, SwitchCase, Token}
use Rattle.rhai_tree.specs.declared.literal.Literal.{Literal}
use Rattle.rhai_tree.specs.declared.expr.Namespace.{Namespace}
use Rattle.rhai_tree.specs.declared.expr.Expr.TheVariants as expr
use Rattle.rhai_tree.specs.declared.expr.Stmt.TheVariants as stmt
use Rattle.rhai_tree.specs.Position.{at, none}
use Rattle.rhai_tree.specs.Tokens.{syntax_of}

-- a column of the first line
abbrev pub column : ℕ → Position
column c = at 1 c

-- no path in front of a name
abbrev pub unqualified : Namespace
unqualified = record { path = []; index = None; position = none }

-- an integer that is not negative
abbrev pub int : (at : ℕ) → ℕ → Expr
int c n = expr.IntegerConstant (pos n) (column c)

-- a truth value
abbrev pub bool : (at : ℕ) → Bool → Expr
bool c b = expr.BoolConstant b (column c)

-- a variable
abbrev pub var : (at : ℕ) → List ℕ → Expr
var c name = expr.Variable None name unqualified (column c)

-- an operator at its own column, with its operands
abbrev pub op : (at : ℕ) → Token → List Expr → Expr
op c token operands = expr.FnCall (record {
  namespace = unqualified;
  name = syntax_of token;
  args = operands;
  op_token = Some token;
  capture_parent_scope = false;
}) (column c)

-- `()`
abbrev pub unit_at : (at : ℕ) → Expr
unit_at c = expr.Unit (column c)

-- an `&&` over all its parts
abbrev pub all_of : (at : ℕ) → List Expr → Expr
all_of c parts = expr.And parts (column c)

-- an `||` over all its parts
abbrev pub any_of : (at : ℕ) → List Expr → Expr
any_of c parts = expr.Or parts (column c)

-- a `??` over all its parts
abbrev pub first_of : (at : ℕ) → List Expr → Expr
first_of c parts = expr.Coalesce parts (column c)

-- statements between braces
abbrev pub braces : (from to : ℕ) → List Stmt → StmtBlock
braces from to stmts = record { statements = stmts; position = column from; end_position = column to }

-- a block as an expression
abbrev pub inner : StmtBlock → Expr
inner block = expr.Stmt block

-- an expression as a statement
abbrev pub value : Expr → Stmt
value e = stmt.Expr e

-- a block as a statement
abbrev pub block : StmtBlock → Stmt
block b = stmt.Block b

-- `let` or `const`, whose name stands so many columns further; one with an index overwrites the newest variable of its name
abbrev pub define : (options width at : ℕ) → (index : Option NonZeroUsize) → List ℕ → Expr → Stmt
define options width c index name e =
    stmt.Var (record { name = name; pos = column (c + width) }) e index (record { 0 = options }) (column c)

-- a `let` of a new variable
abbrev pub let_ : (at : ℕ) → List ℕ → Expr → Stmt
let_ c name e = define 0 4 c None name e

-- a `const` of a new variable
abbrev pub const_ : (at : ℕ) → List ℕ → Expr → Stmt
const_ c name e = define 4 6 c None name e

-- a `let` that overwrites the newest variable of its name
abbrev pub let_over : NonZeroUsize → (at : ℕ) → List ℕ → Expr → Stmt
let_over index c name e = define 0 4 c (Some index) name e

-- a `const` that overwrites the newest variable of its name
abbrev pub const_over : NonZeroUsize → (at : ℕ) → List ℕ → Expr → Stmt
const_over index c name e = define 4 6 c (Some index) name e

-- an `export let`, of a new variable or over the newest one
abbrev pub export_let : (at : ℕ) → (index : Option NonZeroUsize) → List ℕ → Expr → Stmt
export_let c index name e = define 8 11 c index name e

-- an `export const`, of a new variable or over the newest one
abbrev pub export_const : (at : ℕ) → (index : Option NonZeroUsize) → List ℕ → Expr → Stmt
export_const c index name e = define 12 13 c index name e

-- an assignment, plain or by an operator, which stands at a column
abbrev pub assign : (at : ℕ) → Option Token → Expr → Expr → Stmt
assign c token left right = stmt.Assignment (record { op = token; position = column c }) left right

-- a `while`
abbrev pub while_ : (at : ℕ) → Expr → StmtBlock → Stmt
while_ c test body = stmt.While test body (column c)

-- a `loop`
abbrev pub loop_ : (at : ℕ) → StmtBlock → Stmt
loop_ c body = while_ c (expr.Unit (column c)) body

-- a `do .. while`
abbrev pub do_while : (at : ℕ) → StmtBlock → Expr → Stmt
do_while c body test = stmt.Do test body (record { 0 = 0 }) (column c)

-- a `do .. until`
abbrev pub do_until : (at : ℕ) → StmtBlock → Expr → Stmt
do_until c body test = stmt.Do test body (record { 0 = 1 }) (column c)

-- a `break`, with a value or without
abbrev pub break_ : (at : ℕ) → Option Expr → Stmt
break_ c e = stmt.BreakLoop e (record { 0 = 2 }) (column c)

-- a `continue`
abbrev pub continue_ : (at : ℕ) → Stmt
continue_ c = stmt.BreakLoop None (record { 0 = 0 }) (column c)

-- a `return`, with a value or without
abbrev pub return_ : (at : ℕ) → Option Expr → Stmt
return_ c e = stmt.Return e (record { 0 = 0 }) (column c)

-- a `throw`, with a value or without
abbrev pub throw_ : (at : ℕ) → Option Expr → Stmt
throw_ c e = stmt.Return e (record { 0 = 2 }) (column c)

-- a name at a column
abbrev pub ident : (at : ℕ) → List ℕ → Ident
ident c name = record { name = name; pos = column c }

-- a `for`, with a counter or without
abbrev pub for_ : (at : ℕ) → Ident → (counter : Option Ident) → Expr → StmtBlock → Stmt
for_ c name counter items body = stmt.For name counter items body (column c)

-- a `try` whose branch has a variable, or none
abbrev pub try_ : (at : ℕ) → StmtBlock → Expr → StmtBlock → Stmt
try_ c body variable branch = stmt.TryCatch body variable branch (column c)

-- no variable of a `catch`
abbrev pub no_variable : Expr
no_variable = expr.Unit none

-- a result of a `switch` under a condition
abbrev pub result_if : (test result : Expr) → ConditionalExpr
result_if test e = record { condition = test; expr = e }

-- a result of a `switch` under no condition
abbrev pub result_of : Expr → ConditionalExpr
result_of e = result_if (expr.BoolConstant true none) e

-- a case of a `switch`, with the number of its result
abbrev pub case_of : Literal → ℕ → SwitchCase
case_of literal number = record { value = literal; blocks = number ∷ [] }

-- a `switch`, with the number of its default's result or without
abbrev pub switch_ : (at : ℕ) → Expr → List ConditionalExpr → List SwitchCase → List RangeCase → (default : Option ℕ) → Stmt
switch_ c e results cases ranges default = stmt.Switch e results cases ranges default (column c)

-- a variable that a closure shares
abbrev pub shared : (at : ℕ) → List ℕ → SharedVariable
shared c name = record { ident = ident c name; offset = None }

-- an `if` with both its lists
abbrev pub if_ : (at : ℕ) → Expr → StmtBlock → StmtBlock → Stmt
if_ c test body branch = stmt.If test body branch (column c)

-- an `if` without an `else`: an empty list
abbrev pub no_else : StmtBlock
no_else = record { statements = []; position = none; end_position = none }
