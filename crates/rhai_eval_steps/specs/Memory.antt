-- Whether a part of a tree may ask for memory. Literals, blocks and choices by a truth literal do not.
use Rattle.std.specs.Prelude.{Bool, true, false, ◌||◌, List, map}
use Rattle.rhai_tree.specs.declared.expr.Expr.{Expr}
use Rattle.rhai_tree.specs.declared.expr.StmtBlock.{StmtBlock}
use Rattle.rhai_tree.specs.declared.expr.Stmt.{Stmt}
use Rattle.rhai_tree.specs.declared.expr.Expr.TheOpen as layer
use Rattle.rhai_tree.specs.declared.expr.Expr.TheFolds.{fold-Expr, fold-StmtBlock, fold-Stmt}
use Rattle.rhai_tree.specs.Forms.{any_of}

-- an expression may ask for memory: where its value is wanted, and where it is a condition
abbrev pub Need : Type 0
Need = Bool × Bool

-- whether an expression of this form may ask for memory: a truth literal never, an integer or `()` as a condition, any other always
abbrev pub expr_step : layer.Expr-F Need Bool (Unit {0}) (Unit {0}) (Unit {0}) Bool → Need
expr_step (layer.BoolConstant value pos) = (false, false)
expr_step (layer.IntegerConstant value pos) = (false, true)
expr_step (layer.Unit pos) = (false, true)
expr_step _ = (true, true)

-- whether a statement of this form may ask for memory, given whether its parts may
abbrev pub stmt_step : layer.Stmt-F Need Bool (Unit {0}) (Unit {0}) (Unit {0}) Bool → Bool
stmt_step (layer.Noop pos) = false
stmt_step (layer.Expr expr) = expr.0
stmt_step (layer.Block block) = block
stmt_step (layer.If test body branch pos) = test.1 || (body || branch)
stmt_step _ = true

-- whether an expression may ask for memory, where its value is wanted and where it is a condition
abbrev pub asks_expr : Expr → Need
asks_expr = fold-Expr Need Bool (Unit {0}) (Unit {0}) (Unit {0}) Bool expr_step stmt_step (λ conditional. tt) (λ call. tt) (λ entry. tt)
    (λ block. any_of block.statements)

-- whether a statement of a block may ask for memory
abbrev pub asks_block : StmtBlock → Bool
asks_block = fold-StmtBlock Need Bool (Unit {0}) (Unit {0}) (Unit {0}) Bool expr_step stmt_step (λ conditional. tt) (λ call. tt)
    (λ entry. tt) (λ block. any_of block.statements)

-- whether a statement may ask for memory
abbrev pub asks_stmt : Stmt → Bool
asks_stmt = fold-Stmt Need Bool (Unit {0}) (Unit {0}) (Unit {0}) Bool expr_step stmt_step (λ conditional. tt) (λ call. tt) (λ entry. tt)
    (λ block. any_of block.statements)

-- whether a statement of a list may ask for memory
abbrev pub may_ask : List Stmt → Bool
may_ask statements = any_of (map asks_stmt statements)

-- whether a condition, or one of the two lists that it chooses from, may ask for memory
abbrev pub asks_if : Expr → (body branch : StmtBlock) → Bool
asks_if test body branch = (asks_expr test).1 || (asks_block body || asks_block branch)
