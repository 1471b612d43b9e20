-- The types that the definitions here speak of, in one file.
pub use Rattle.rhai_tree.specs.declared.fault.CheckFault.{CheckFault}
pub use Rattle.rhai_tree.specs.declared.expr.ConditionalExpr.{ConditionalExpr}
pub use Rattle.rhai_tree.specs.declared.expr.Expr.{Expr}
pub use Rattle.rhai_tree.specs.declared.expr.FnCallExpr.{FnCallExpr}
pub use Rattle.rhai_tree.specs.declared.expr.Ident.{Ident}
pub use Rattle.rhai_tree.specs.declared.expr.MapEntry.{MapEntry}
pub use Rattle.rhai_tree.specs.declared.expr.Namespace.{Namespace}
pub use Rattle.rhai_tree.specs.declared.expr.RangeCase.{RangeCase}
pub use Rattle.rhai_tree.specs.declared.expr.SharedVariable.{SharedVariable}
pub use Rattle.rhai_tree.specs.declared.expr.Stmt.{Stmt}
pub use Rattle.rhai_tree.specs.declared.expr.StmtBlock.{StmtBlock}
pub use Rattle.rhai_tree.specs.declared.expr.SwitchCase.{SwitchCase}
pub use Rattle.rhai_tree.specs.declared.flags.ASTFlags.{ASTFlags}
pub use Rattle.rhai_tree.specs.declared.function.ScriptFuncDef.{ScriptFuncDef}
pub use Rattle.rhai_tree.specs.declared.function.ScriptFuncPayload.{ScriptFuncPayload}
pub use Rattle.rhai_tree.specs.declared.literal.Literal.{Literal}
pub use Rattle.rhai_tree.specs.declared.position.Position.{Position}
