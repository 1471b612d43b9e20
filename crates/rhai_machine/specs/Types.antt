-- The types that the definitions here speak of, gathered in one file.
pub use Rattle.rhai_errors.specs.declared.error.EvalAltResult.{EvalAltResult}
pub use Rattle.rhai_state.specs.declared.limits.Limits.{Limits}
pub use Rattle.rhai_state.specs.declared.scope.ScopeEntry.{ScopeEntry}
pub use Rattle.rhai_tree.specs.declared.expr.ConditionalExpr.{ConditionalExpr}
pub use Rattle.rhai_tree.specs.declared.expr.Expr.{out-Expr, Expr}
pub use Rattle.rhai_tree.specs.declared.expr.Ident.{Ident}
pub use Rattle.rhai_tree.specs.declared.expr.OpAssignment.{OpAssignment}
pub use Rattle.rhai_tree.specs.declared.expr.RangeCase.{RangeCase}
pub use Rattle.rhai_tree.specs.declared.expr.SharedVariable.{SharedVariable}
pub use Rattle.rhai_tree.specs.declared.expr.Stmt.{Stmt}
pub use Rattle.rhai_tree.specs.declared.expr.StmtBlock.{StmtBlock}
pub use Rattle.rhai_tree.specs.declared.expr.SwitchCase.{SwitchCase}
pub use Rattle.rhai_tree.specs.declared.flags.ASTFlags.{ASTFlags}
pub use Rattle.rhai_tree.specs.declared.function.FnAccess.{FnAccess}
pub use Rattle.rhai_tree.specs.declared.function.ScriptFuncDef.{ScriptFuncDef}
pub use Rattle.rhai_tree.specs.declared.function.ScriptFuncPayload.{ScriptFuncPayload}
pub use Rattle.rhai_tree.specs.declared.position.Position.{Position}
pub use Rattle.rhai_tree.specs.declared.token.Token.{Token}
pub use Rattle.rhai_values.specs.declared.base.value.AccessMode.{AccessMode}
pub use Rattle.rhai_values.specs.declared.base.value.Dynamic.{Dynamic}
pub use Rattle.rhai_values.specs.declared.base.value.EncapsulatedEnviron.{EncapsulatedEnviron, out-EncapsulatedEnviron}
pub use Rattle.rhai_values.specs.declared.base.value.FnPtr.{FnPtr}
pub use Rattle.rhai_values.specs.declared.base.value.Import.{Import, out-Import}
pub use Rattle.rhai_values.specs.declared.base.value.Module.{Module, out-Module}
pub use Rattle.rhai_values.specs.declared.base.value.ModuleFn.{ModuleFn, out-ModuleFn}
pub use Rattle.rhai_values.specs.declared.base.value.Union.{Union}
