-- What is seen of a form from one level of it, for whether it may run.
use Rattle.std.proofs.Common.{◌≡◌, ap, ◌∙◌}
use Rattle.rhai_tree.specs.declared.expr.ConditionalExpr.{ConditionalExpr}
use Rattle.rhai_tree.specs.declared.expr.Expr.{Expr, out-Expr}
use Rattle.rhai_tree.specs.declared.expr.Expr.TheOpen as layer
use Rattle.rhai_tree.specs.declared.expr.Expr.TheFolds.{map-Expr, map-Stmt, fold_out-Expr, fold_out-Stmt}
use Rattle.rhai_tree.specs.declared.expr.FnCallExpr.{FnCallExpr}
use Rattle.rhai_tree.specs.declared.expr.MapEntry.{MapEntry}
use Rattle.rhai_tree.specs.declared.expr.StmtBlock.{StmtBlock}
use Rattle.rhai_tree.specs.declared.expr.Stmt.{Stmt, out-Stmt}
use Rattle.rhai_tree.specs.Layers.{ExprLayer, StmtLayer}
use Rattle.rhai_tree.specs.Frame.{tests_of, resolves_stmt}
use Rattle.rhai_tree.specs.Reading as walk
use Rattle.rhai_tree.specs.Reading.{sound}

abbrev pub Tests : Type 0
Tests = walk.Seen sound

abbrev pub Verdict : Type 0
Verdict = walk.SeenStmt sound

-- whether the parts of one level may run
abbrev pub expr_tests : ExprLayer → layer.Expr-F Tests Verdict (walk.SeenConditional sound) (walk.SeenCall sound)
    (walk.SeenEntry sound) Tests
expr_tests = map-Expr Expr Stmt ConditionalExpr FnCallExpr MapEntry StmtBlock Tests Verdict (walk.SeenConditional sound)
    (walk.SeenCall sound)
    (walk.SeenEntry sound) Tests tests_of resolves_stmt (walk.seen_conditional sound) (walk.seen_call sound) (walk.seen_entry sound)
    (walk.seen_block sound)

abbrev pub stmt_tests : StmtLayer → layer.Stmt-F Tests Verdict (walk.SeenConditional sound) (walk.SeenCall sound)
    (walk.SeenEntry sound) Tests
stmt_tests = map-Stmt Expr Stmt ConditionalExpr FnCallExpr MapEntry StmtBlock Tests Verdict (walk.SeenConditional sound)
    (walk.SeenCall sound)
    (walk.SeenEntry sound) Tests tests_of resolves_stmt (walk.seen_conditional sound) (walk.seen_call sound) (walk.seen_entry sound)
    (walk.seen_block sound)

pub resolves-expr : (e : Expr) (l : ExprLayer) → out-Expr e ≡ l → tests_of e ≡ walk.expr_step sound (expr_tests l)
resolves-expr e l is = fold_out-Expr Tests Verdict (walk.SeenConditional sound) (walk.SeenCall sound) (walk.SeenEntry sound) Tests
    (walk.expr_step sound) (walk.stmt_step sound) (walk.conditional_step sound) (walk.call_step sound) (walk.entry_step sound)
    (walk.block_step sound) e
    ∙ ap (λ (k : ExprLayer). walk.expr_step sound (expr_tests k)) is

pub resolves-stmt : (s : Stmt) (l : StmtLayer) → out-Stmt s ≡ l → resolves_stmt s ≡ walk.stmt_step sound (stmt_tests l)
resolves-stmt s l is = fold_out-Stmt Tests Verdict (walk.SeenConditional sound) (walk.SeenCall sound) (walk.SeenEntry sound) Tests
    (walk.expr_step sound) (walk.stmt_step sound) (walk.conditional_step sound) (walk.call_step sound) (walk.entry_step sound)
    (walk.block_step sound) s
    ∙ ap (λ (k : StmtLayer). walk.stmt_step sound (stmt_tests k)) is
