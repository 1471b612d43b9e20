-- Whether a part of a tree declares a variable, imports a module, makes a map or is a chain: the checker needs memory for names, keys and
-- links alone.
use Rattle.std.specs.Prelude.{Bool, true, false, ◌||◌, List, [], ◌∷◌, map, Option, Some, None}
use Rattle.rhai_tree.specs.Forms.{any_of, catch_name, catch_of}
use Rattle.rhai_tree.specs.Names.{Name}
use Rattle.rhai_check.specs.Types.{ConditionalExpr, Expr, FnCallExpr, ScriptFuncDef, Stmt, StmtBlock}
use Rattle.rhai_tree.specs.declared.expr.Expr.TheOpen as layer
use Rattle.rhai_tree.specs.declared.expr.Expr.TheFolds.{fold-Expr, fold-ConditionalExpr, fold-FnCallExpr, fold-StmtBlock, fold-Stmt}

-- whether the check of an expression may need memory: as it stands, and as a catch variable
pub record Needs : Type 0 where
  pub declares : Bool
  pub in_catch : Bool

-- the check of several expressions may need memory, as that of one of them may
abbrev pub any_need : List Needs → Bool
any_need [] = false
any_need (part ∷ parts) = part.declares || any_need parts

-- the check of an expression that may be left out may need memory
abbrev pub in_option : Option Needs → Bool
in_option None = false
in_option (Some part) = part.declares

-- a catch variable that is a name declares it
abbrev pub names_a_catch : Option (Option Name) → Bool
names_a_catch (Some (Some name)) = true
names_a_catch _ = false

-- the check of an expression may need memory: that of a map or a chain, and any other as that of its parts may
abbrev pub form_step : layer.Expr-F Needs Bool Bool Bool (Unit {0}) Bool → Bool
form_step (layer.InterpolatedString parts pos) = any_need parts
form_step (layer.Array items pos) = any_need items
form_step (layer.Map entries template pos) = true
form_step (layer.Expr::FnCall call pos) = call
form_step (layer.Stmt block) = block
form_step (layer.MethodCall call pos) = call
form_step (layer.Dot lhs rhs options pos) = true
form_step (layer.Index lhs rhs options pos) = true
form_step (layer.And parts pos) = any_need parts
form_step (layer.Or parts pos) = any_need parts
form_step (layer.Coalesce parts pos) = any_need parts
form_step _ = false

-- whether the check of an expression may need memory, from its parts
abbrev pub expr_step : layer.Expr-F Needs Bool Bool Bool (Unit {0}) Bool → Needs
expr_step form = record { declares = form_step form; in_catch = names_a_catch (catch_name form) }

-- the check of a call may need memory, as that of its arguments may
abbrev pub call_step : layer.FnCallExpr-F Needs Bool Bool Bool (Unit {0}) Bool → Bool
call_step call = any_need call.args

-- the check of a condition of a `switch` and its result may need memory, as that of either may
abbrev pub conditional_step : layer.ConditionalExpr-F Needs Bool Bool Bool (Unit {0}) Bool → Bool
conditional_step conditional = conditional.condition.declares || conditional.expr.declares

-- the check of a block may need memory, as that of its statements may
abbrev pub block_step : layer.StmtBlock-F Needs Bool Bool Bool (Unit {0}) Bool → Bool
block_step block = any_of block.statements

-- the check of a statement may need memory: that of a declaration, a `for` or an `import`, and any other as that of its parts may
abbrev pub stmt_step : layer.Stmt-F Needs Bool Bool Bool (Unit {0}) Bool → Bool
stmt_step (layer.Noop pos) = false
stmt_step (layer.Expr expr) = expr.declares
stmt_step (layer.Stmt::FnCall call pos) = call
stmt_step (layer.Block block) = block
stmt_step (layer.Assignment op lhs rhs) = lhs.declares || rhs.declares
stmt_step (layer.Var ident expr index options pos) = true
stmt_step (layer.If expr body branch pos) = expr.declares || (body || branch)
stmt_step (layer.Switch expr expressions cases ranges def_case pos) = expr.declares || any_of expressions
stmt_step (layer.While expr body pos) = expr.declares || body
stmt_step (layer.Do expr body options pos) = expr.declares || body
stmt_step (layer.For name counter expr body pos) = true
stmt_step (layer.BreakLoop expr options pos) = in_option expr
stmt_step (layer.TryCatch body variable branch pos) = body || (variable.in_catch || branch)
stmt_step (layer.Return expr options pos) = in_option expr
stmt_step (layer.Import expr alias pos) = true
stmt_step (layer.Export name alias pos) = false
stmt_step (layer.Share variables) = false

-- whether the check of a whole expression may need memory: as it stands, and as a catch variable
abbrev pub needs_of : Expr → Needs
needs_of = fold-Expr Needs Bool Bool Bool (Unit {0}) Bool expr_step stmt_step conditional_step call_step (λ entry. tt) block_step

-- the check of a whole expression may need memory
abbrev pub expr_needs_memory : Expr → Bool
expr_needs_memory e = (needs_of e).declares

-- the check of a whole call may need memory
abbrev pub call_needs_memory : FnCallExpr → Bool
call_needs_memory = fold-FnCallExpr Needs Bool Bool Bool (Unit {0}) Bool expr_step stmt_step conditional_step call_step
    (λ entry. tt) block_step

-- the check of a whole condition of a `switch` and its result may need memory
abbrev pub conditional_needs_memory : ConditionalExpr → Bool
conditional_needs_memory = fold-ConditionalExpr Needs Bool Bool Bool (Unit {0}) Bool expr_step stmt_step conditional_step call_step
    (λ entry. tt) block_step

-- the check of a whole block may need memory
abbrev pub block_needs_memory : StmtBlock → Bool
block_needs_memory = fold-StmtBlock Needs Bool Bool Bool (Unit {0}) Bool expr_step stmt_step conditional_step call_step
    (λ entry. tt) block_step

-- the check of a whole statement may need memory
abbrev pub stmt_needs_memory : Stmt → Bool
stmt_needs_memory = fold-Stmt Needs Bool Bool Bool (Unit {0}) Bool expr_step stmt_step conditional_step call_step (λ entry. tt) block_step

-- the check of a branch behind its catch variable may need memory
abbrev pub catch_needs_memory : (variable : Expr) → (branch : StmtBlock) → Bool
catch_needs_memory variable branch = names_a_catch (catch_of variable) || block_needs_memory branch

-- there are functions, whose check may need memory
abbrev pub has_functions : List ScriptFuncDef → Bool
has_functions [] = false
has_functions (def ∷ defs) = true

-- the check of a tree needs memory only where the tree declares a variable, imports a module, makes a map, has a chain or has functions
abbrev pub needs_memory : List Stmt → List ScriptFuncDef → Bool
needs_memory statements functions = any_of (map stmt_needs_memory statements) || has_functions functions
