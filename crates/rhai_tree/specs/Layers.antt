-- One level of the tree: a form with its parts, lists and boxes read as what they contain.
use Rattle.rhai_tree.specs.declared.expr.Expr.{Expr}
use Rattle.rhai_tree.specs.declared.expr.MapEntry.{MapEntry}
use Rattle.rhai_tree.specs.declared.expr.FnCallExpr.{FnCallExpr}
use Rattle.rhai_tree.specs.declared.expr.StmtBlock.{StmtBlock}
use Rattle.rhai_tree.specs.declared.expr.ConditionalExpr.{ConditionalExpr}
use Rattle.rhai_tree.specs.declared.expr.Stmt.{Stmt}
use Rattle.rhai_tree.specs.declared.expr.Expr.TheOpen as layer

-- one level of an expression: its form, and the whole expressions, calls and blocks right below it
abbrev pub ExprLayer : Type 0
ExprLayer = layer.Expr-F Expr Stmt ConditionalExpr FnCallExpr MapEntry StmtBlock

-- one level of a statement: its form, and the whole expressions, calls and blocks right below it
abbrev pub StmtLayer : Type 0
StmtLayer = layer.Stmt-F Expr Stmt ConditionalExpr FnCallExpr MapEntry StmtBlock
