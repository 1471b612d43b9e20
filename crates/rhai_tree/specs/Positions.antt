-- Where a form stands, and where its text starts.
use Rattle.std.specs.Prelude.{ℕ, List, [], ◌∷◌, Option, Some, None}
use Rattle.rhai_tree.specs.declared.position.Position.{Position}
use Rattle.rhai_tree.specs.declared.token.Token.{Token}
use Rattle.rhai_tree.specs.declared.expr.Expr.{Expr, out-Expr}
use Rattle.rhai_tree.specs.declared.expr.Stmt.{Stmt, out-Stmt}
use Rattle.rhai_tree.specs.declared.expr.Expr.TheOpen as layer
use Rattle.rhai_tree.specs.declared.expr.Expr.TheFolds.{fold-Expr}
use Rattle.rhai_tree.specs.declared.expr.SharedVariable.{SharedVariable}
use Rattle.rhai_tree.specs.declared.function.ScriptFuncPayload.{ScriptFuncPayload}
use Rattle.rhai_tree.specs.declared.function.ScriptFuncPayload.TheVariants.{Statements}
use Rattle.rhai_tree.specs.Position.{none}
use Rattle.rhai_tree.specs.Layers.{ExprLayer, StmtLayer}

-- where an expression stands: a chain or an operator call at its operator, another call at its name, a block at its opening brace
abbrev pub position_at : ExprLayer → Position
position_at (layer.DynamicConstant value pos) = pos
position_at (layer.BoolConstant value pos) = pos
position_at (layer.IntegerConstant value pos) = pos
position_at (layer.CharConstant value pos) = pos
position_at (layer.StringConstant value pos) = pos
position_at (layer.Unit pos) = pos
position_at (layer.InterpolatedString parts pos) = pos
position_at (layer.Array items pos) = pos
position_at (layer.Map entries template pos) = pos
position_at (layer.ThisPtr pos) = pos
position_at (layer.Variable offset name namespace pos) = pos
position_at (layer.Property name pos) = pos
position_at (layer.MethodCall call pos) = pos
position_at (layer.Expr::FnCall call pos) = pos
position_at (layer.Stmt block) = block.position
position_at (layer.Dot lhs rhs options pos) = pos
position_at (layer.Index lhs rhs options pos) = pos
position_at (layer.And parts pos) = pos
position_at (layer.Or parts pos) = pos
position_at (layer.Coalesce parts pos) = pos

-- where a whole expression stands
abbrev pub position_of : Expr → Position
position_of e = position_at (out-Expr e)

-- the first of some positions, or this one where there are none
abbrev pub first_or : Position → List Position → Position
first_or pos [] = pos
first_or pos (first ∷ rest) = first

-- a qualified name starts where its path does
abbrev pub start_of_name : List (List ℕ) → Position → Position → Position
start_of_name [] path pos = pos
start_of_name (root ∷ names) path pos = path

-- a call written with an operator between two operands starts at the first of them
abbrev pub start_of_operands : Option Token → List Position → Option Position
start_of_operands (Some op) (left ∷ right ∷ []) = Some left
start_of_operands op operands = None

-- where a call starts whose name or operator stands at this position
abbrev pub start_of_call : Option Position → Position → Position
start_of_call (Some left) pos = left
start_of_call None pos = pos

-- where an expression's text starts, from where those of its parts do
abbrev pub start_step : layer.Expr-F Position (Unit {0}) (Unit {0}) (Option Position) (Unit {0}) Position → Position
start_step (layer.DynamicConstant value pos) = pos
start_step (layer.BoolConstant value pos) = pos
start_step (layer.IntegerConstant value pos) = pos
start_step (layer.CharConstant value pos) = pos
start_step (layer.StringConstant value pos) = pos
start_step (layer.Unit pos) = pos
start_step (layer.InterpolatedString parts pos) = pos
start_step (layer.Array items pos) = pos
start_step (layer.Map entries template pos) = pos
start_step (layer.ThisPtr pos) = pos
start_step (layer.Variable offset name namespace pos) = start_of_name namespace.path namespace.position pos
start_step (layer.Property name pos) = pos
start_step (layer.MethodCall call pos) = pos
start_step (layer.Expr::FnCall call pos) = start_of_call call pos
start_step (layer.Stmt block) = block
start_step (layer.Dot lhs rhs options pos) = lhs
start_step (layer.Index lhs rhs options pos) = lhs
start_step (layer.And parts pos) = first_or pos parts
start_step (layer.Or parts pos) = first_or pos parts
start_step (layer.Coalesce parts pos) = first_or pos parts

-- where the text of a whole expression starts
abbrev pub start_of : Expr → Position
start_of = fold-Expr Position (Unit {0}) (Unit {0}) (Option Position) (Unit {0}) Position
    start_step
    (λ stmt. tt)
    (λ conditional. tt)
    (λ call. start_of_operands call.op_token call.args)
    (λ entry. tt)
    (λ block. block.position)

-- where the first of the shared variables stands
abbrev pub first_shared : List SharedVariable → Position
first_shared [] = none
first_shared (variable ∷ variables) = variable.ident.pos

-- where a statement stands: at its first token
abbrev pub stmt_position_at : StmtLayer → Position
stmt_position_at (layer.Noop pos) = pos
stmt_position_at (layer.Expr expr) = start_of expr
stmt_position_at (layer.Stmt::FnCall call pos) = pos
stmt_position_at (layer.Block block) = block.position
stmt_position_at (layer.Assignment op lhs rhs) = start_of lhs
stmt_position_at (layer.Var ident expr index options pos) = pos
stmt_position_at (layer.If expr body branch pos) = pos
stmt_position_at (layer.Switch expr expressions cases ranges def_case pos) = pos
stmt_position_at (layer.While expr body pos) = pos
stmt_position_at (layer.Do expr body options pos) = pos
stmt_position_at (layer.For name counter expr body pos) = pos
stmt_position_at (layer.BreakLoop expr options pos) = pos
stmt_position_at (layer.TryCatch body variable branch pos) = pos
stmt_position_at (layer.Return expr options pos) = pos
stmt_position_at (layer.Import expr alias pos) = pos
stmt_position_at (layer.Export name alias pos) = pos
stmt_position_at (layer.Share variables) = first_shared variables

-- where a whole statement stands
abbrev pub stmt_position_of : Stmt → Position
stmt_position_of s = stmt_position_at (out-Stmt s)

-- where a function's body starts: at its opening brace
abbrev pub start_of_payload : ScriptFuncPayload → Position
start_of_payload (Statements block) = block.position

-- where a function's body ends: at its closing brace
abbrev pub end_of_payload : ScriptFuncPayload → Position
end_of_payload (Statements block) = block.end_position
