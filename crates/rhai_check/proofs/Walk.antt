-- What the folds give at a form, from one level of it.
use Rattle.std.proofs.Common.{◌≡◌, ap, sym, ◌∙◌, subst, List, Bool}
use Rattle.rhai_tree.specs.declared.fault.CheckFault.{CheckFault}
use Rattle.rhai_tree.specs.declared.expr.ConditionalExpr.{ConditionalExpr}
use Rattle.rhai_tree.specs.declared.expr.Expr.{Expr, out-Expr}
use Rattle.rhai_tree.specs.declared.expr.Expr.TheOpen as layer
use Rattle.rhai_tree.specs.declared.expr.Expr.TheFolds.{map-Expr, map-Stmt, fold_out-Expr, fold_out-Stmt}
use Rattle.rhai_tree.specs.declared.expr.FnCallExpr.{FnCallExpr}
use Rattle.rhai_tree.specs.declared.expr.MapEntry.{MapEntry}
use Rattle.rhai_tree.specs.declared.expr.StmtBlock.{StmtBlock}
use Rattle.rhai_tree.specs.declared.expr.Stmt.{Stmt, out-Stmt}
use Rattle.rhai_tree.specs.Context.{Context}
use Rattle.rhai_check.specs.MemoryNeeds as declares
use Rattle.rhai_check.specs.MemoryNeeds.{Needs, needs_of, names_a_catch, expr_needs_memory, call_needs_memory, conditional_needs_memory}
use Rattle.rhai_check.specs.MemoryNeeds.{block_needs_memory}
use Rattle.rhai_check.specs.MemoryNeeds.{stmt_needs_memory}
use Rattle.rhai_tree.specs.Forms.{catch_name}
use Rattle.rhai_tree.specs.Reading as walk
use Rattle.rhai_tree.specs.Reading.{faulty}
use Rattle.rhai_tree.specs.Layers.{ExprLayer, StmtLayer}
use Rattle.rhai_check.specs.Refusals.{Refuses}
use Rattle.rhai_tree.specs.WellFormed.{seen_expr, seen_call, seen_conditional, seen_block, seen_entry, seen_stmt}

-- what is seen of forms for their faults
abbrev pub Seen : Type 0
Seen = walk.Seen faulty

abbrev pub SeenCall : Type 0
SeenCall = walk.SeenCall faulty

abbrev pub SeenEntry : Type 0
SeenEntry = walk.SeenEntry faulty

abbrev pub SeenStmt : Type 0
SeenStmt = walk.SeenStmt faulty

abbrev pub SeenConditional : Type 0
SeenConditional = walk.SeenConditional faulty

-- the faults of the parts of one level
abbrev pub expr_faults : ExprLayer → layer.Expr-F Seen SeenStmt SeenConditional SeenCall SeenEntry Seen
expr_faults = map-Expr Expr Stmt ConditionalExpr FnCallExpr MapEntry StmtBlock Seen SeenStmt SeenConditional SeenCall SeenEntry Seen
    seen_expr seen_stmt seen_conditional seen_call seen_entry seen_block

abbrev pub stmt_faults : StmtLayer → layer.Stmt-F Seen SeenStmt SeenConditional SeenCall SeenEntry Seen
stmt_faults = map-Stmt Expr Stmt ConditionalExpr FnCallExpr MapEntry StmtBlock Seen SeenStmt SeenConditional SeenCall SeenEntry Seen
    seen_expr seen_stmt seen_conditional seen_call seen_entry seen_block

-- whether the parts of one level declare
abbrev pub expr_declares : ExprLayer → layer.Expr-F Needs Bool Bool Bool (Unit {0}) Bool
expr_declares = map-Expr Expr Stmt ConditionalExpr FnCallExpr MapEntry StmtBlock Needs Bool Bool Bool (Unit {0}) Bool
    needs_of stmt_needs_memory conditional_needs_memory call_needs_memory (λ entry. tt) block_needs_memory

abbrev pub stmt_declares : StmtLayer → layer.Stmt-F Needs Bool Bool Bool (Unit {0}) Bool
stmt_declares = map-Stmt Expr Stmt ConditionalExpr FnCallExpr MapEntry StmtBlock Needs Bool Bool Bool (Unit {0}) Bool
    needs_of stmt_needs_memory conditional_needs_memory call_needs_memory (λ entry. tt) block_needs_memory

pub seen-expr : (e : Expr) (l : ExprLayer) → out-Expr e ≡ l → seen_expr e ≡ walk.expr_step faulty (expr_faults l)
seen-expr e l is = fold_out-Expr Seen SeenStmt SeenConditional SeenCall SeenEntry Seen
    (walk.expr_step faulty) (walk.stmt_step faulty) (walk.conditional_step faulty) (walk.call_step faulty) (walk.entry_step faulty)
    (walk.block_step faulty) e
    ∙ ap (λ (k : ExprLayer). walk.expr_step faulty (expr_faults k)) is

pub seen-stmt : (s : Stmt) (l : StmtLayer) → out-Stmt s ≡ l → seen_stmt s ≡ walk.stmt_step faulty (stmt_faults l)
seen-stmt s l is = fold_out-Stmt Seen SeenStmt SeenConditional SeenCall SeenEntry Seen
    (walk.expr_step faulty) (walk.stmt_step faulty) (walk.conditional_step faulty) (walk.call_step faulty) (walk.entry_step faulty)
    (walk.block_step faulty) s
    ∙ ap (λ (k : StmtLayer). walk.stmt_step faulty (stmt_faults k)) is

pub declares-expr : (e : Expr) (l : ExprLayer) → out-Expr e ≡ l → expr_needs_memory e ≡ declares.form_step (expr_declares l)
declares-expr e l is = ap (λ (n : Needs). n.declares) (fold_out-Expr Needs Bool Bool Bool (Unit {0}) Bool declares.expr_step
    declares.stmt_step declares.conditional_step declares.call_step (λ entry. tt) declares.block_step e)
    ∙ ap (λ (k : ExprLayer). declares.form_step (expr_declares k)) is

pub in-catch : (e : Expr) → (needs_of e).in_catch ≡ names_a_catch (catch_name (expr_declares (out-Expr e)))
in-catch e = ap (λ (n : Needs). n.in_catch) (fold_out-Expr Needs Bool Bool Bool (Unit {0}) Bool declares.expr_step
    declares.stmt_step declares.conditional_step declares.call_step (λ entry. tt) declares.block_step e)

declares-stmt : (s : Stmt) (l : StmtLayer) → out-Stmt s ≡ l → stmt_needs_memory s ≡ declares.stmt_step (stmt_declares l)
declares-stmt s l is = fold_out-Stmt Needs Bool Bool Bool (Unit {0}) Bool declares.expr_step declares.stmt_step declares.conditional_step
    declares.call_step (λ entry. tt) declares.block_step s
    ∙ ap (λ (k : StmtLayer). declares.stmt_step (stmt_declares k)) is

-- what refuses one level refuses the form
pub refuses_expr_at : (e : Expr) (l : ExprLayer) (c : Context) (fault : CheckFault) → out-Expr e ≡ l
    → Refuses ((walk.expr_step faulty (expr_faults l)).value c) (declares.form_step (expr_declares l)) fault
    → Refuses ((seen_expr e).value c) (expr_needs_memory e) fault
refuses_expr_at e l c fault is h =
    let faults : (seen_expr e).value c ≡ (walk.expr_step faulty (expr_faults l)).value c =
    ap (λ (s : Seen). s.value c) (seen-expr e l is) in
    let declaring = declares-expr e l is in
    subst (λ (fs : List CheckFault). Refuses fs (expr_needs_memory e) fault) (sym faults)
    (subst (λ (d : Bool). Refuses ((walk.expr_step faulty (expr_faults l)).value c) d fault) (sym declaring) h)

pub refuses_stmt_at : (s : Stmt) (l : StmtLayer) (c : Context) (fault : CheckFault) → out-Stmt s ≡ l
    → Refuses (walk.stmt_step faulty (stmt_faults l) c).0 (declares.stmt_step (stmt_declares l)) fault
    → Refuses (seen_stmt s c).0 (stmt_needs_memory s) fault
refuses_stmt_at s l c fault is h =
    let faults : (seen_stmt s c).0 ≡ (walk.stmt_step faulty (stmt_faults l) c).0 = ap (λ (f : SeenStmt). (f c).0) (seen-stmt s l is) in
    let declaring = declares-stmt s l is in
    subst (λ (fs : List CheckFault). Refuses fs (stmt_needs_memory s) fault) (sym faults)
    (subst (λ (d : Bool). Refuses (walk.stmt_step faulty (stmt_faults l) c).0 d fault) (sym declaring) h)
