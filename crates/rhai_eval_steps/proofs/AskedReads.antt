-- Whether an expression that is read as it stands may ask for memory.
use Rattle.std.proofs.Common.{◌≡◌, ◌∙◌, Bool, IsTrue, refl}
use Rattle.rhai_tree.specs.declared.expr.ConditionalExpr.{ConditionalExpr}
use Rattle.rhai_tree.specs.declared.expr.Expr.{Expr, out-Expr}
use Rattle.rhai_tree.specs.declared.expr.Expr.TheOpen as layer
use Rattle.rhai_tree.specs.declared.expr.Expr.TheFolds.{map-Expr, fold_out-Expr}
use Rattle.rhai_tree.specs.declared.expr.FnCallExpr.{FnCallExpr}
use Rattle.rhai_tree.specs.declared.expr.MapEntry.{MapEntry}
use Rattle.rhai_tree.specs.declared.expr.Stmt.{Stmt}
use Rattle.rhai_tree.specs.declared.expr.StmtBlock.{StmtBlock}
use Rattle.rhai_tree.specs.Forms.{any_of}
use Rattle.rhai_tree.specs.Layers.{ExprLayer}
use Rattle.rhai_machine.specs.language.Runs.{at}
use Rattle.rhai_operands.specs.Reading.{asks_read}
use Rattle.rhai_eval_steps.specs.Memory.{Need, asks_expr, asks_stmt, expr_step, stmt_step}

asks_level : (a : Expr → Need) (b : Stmt → Bool) (c : ConditionalExpr → Unit {0}) (d : FnCallExpr → Unit {0}) (f : MapEntry → Unit {0})
    (g : StmtBlock → Bool) (o : ExprLayer) →
    expr_step (map-Expr Expr Stmt ConditionalExpr FnCallExpr MapEntry StmtBlock Need Bool (Unit {0}) (Unit {0}) (Unit {0}) Bool
    a b c d f g o) ≡ asks_read o
asks_level a b c d f g (layer.BoolConstant value pos) = refl
asks_level a b c d f g (layer.IntegerConstant value pos) = refl
asks_level a b c d f g (layer.Unit pos) = refl
asks_level a b c d f g _ = refl

-- whether it may ask for memory
pub asks_as_read : (e : Expr) → asks_expr e ≡ asks_read (out-Expr e)
asks_as_read e = fold_out-Expr Need Bool (Unit {0}) (Unit {0}) (Unit {0}) Bool expr_step stmt_step (λ conditional. tt) (λ call. tt)
    (λ entry. tt) (λ block. any_of block.statements) e ∙ asks_level _ asks_stmt _ _ _ _ (out-Expr e)

asks_more_at : (o : ExprLayer) → IsTrue (asks_read o).0 → IsTrue (asks_read o).1
asks_more_at (layer.BoolConstant value pos) h = h
asks_more_at (layer.IntegerConstant value pos) h = refl
asks_more_at (layer.Unit pos) h = refl
asks_more_at _ h = refl

-- as a condition it asks where it does as a value
pub asks_more : (e : Expr) → IsTrue (asks_expr e).0 → IsTrue (asks_expr e).1
asks_more e h = rw (asks_as_read e) (asks_more_at (out-Expr e) (rw (asks_as_read e) at h))
