-- The types that the definitions here speak of, in one file.
pub use Rattle.rhai_tree.specs.declared.fault.CheckFault.{CheckFault}
pub use Rattle.rhai_tree.specs.declared.expr.ConditionalExpr.{ConditionalExpr}
pub use Rattle.rhai_tree.specs.declared.expr.Expr.{Expr}
pub use Rattle.rhai_tree.specs.declared.expr.FnCallExpr.{FnCallExpr}
pub use Rattle.rhai_tree.specs.declared.expr.Stmt.{Stmt}
pub use Rattle.rhai_tree.specs.declared.expr.StmtBlock.{StmtBlock}
pub use Rattle.rhai_tree.specs.declared.function.ScriptFuncDef.{ScriptFuncDef}
