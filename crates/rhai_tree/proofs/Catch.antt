-- What an expression is as a catch variable, and where it stands, is seen alike in each reading of the tree.
use Rattle.std.proofs.Common.{◌≡◌, ap, refl, ◌∙◌}
use Rattle.rhai_tree.specs.declared.expr.ConditionalExpr.{ConditionalExpr}
use Rattle.rhai_tree.specs.declared.expr.Expr.{Expr, out-Expr}
use Rattle.rhai_tree.specs.declared.expr.Expr.TheOpen as layer
use Rattle.rhai_tree.specs.declared.expr.Expr.TheFolds.{map-Expr, fold_out-Expr, fold_out-StmtBlock}
use Rattle.rhai_tree.specs.declared.expr.FnCallExpr.{FnCallExpr}
use Rattle.rhai_tree.specs.declared.expr.MapEntry.{MapEntry}
use Rattle.rhai_tree.specs.declared.expr.Stmt.{Stmt}
use Rattle.rhai_tree.specs.declared.expr.StmtBlock.{StmtBlock}
use Rattle.rhai_tree.specs.Layers.{ExprLayer}
use Rattle.rhai_tree.specs.Positions.{position_at, position_of}
use Rattle.rhai_tree.specs.Forms.{catch_name, catch_of}
use Rattle.rhai_tree.specs.Reading as walk

module _ (r : walk.Reading) where
  -- what is seen of one level
  abbrev level : ExprLayer → walk.Seen r
  level l = walk.expr_step r (map-Expr Expr Stmt ConditionalExpr FnCallExpr MapEntry StmtBlock (walk.Seen r) (walk.SeenStmt r)
      (walk.SeenConditional r) (walk.SeenCall r) (walk.SeenEntry r) (walk.Seen r) (walk.seen_expr r) (walk.seen_stmt r)
      (walk.seen_conditional r) (walk.seen_call r) (walk.seen_entry r) (walk.seen_block r) l)

  seen_level : (e : Expr) → walk.seen_expr r e ≡ level (out-Expr e)
  seen_level e = fold_out-Expr (walk.Seen r) (walk.SeenStmt r) (walk.SeenConditional r) (walk.SeenCall r) (walk.SeenEntry r) (walk.Seen r)
      (walk.expr_step r) (walk.stmt_step r) (walk.conditional_step r) (walk.call_step r) (walk.entry_step r) (walk.block_step r) e

  catch_level : (l : ExprLayer) → (level l).catch ≡ catch_name l
  catch_level (layer.Variable offset name namespace pos) = refl
  catch_level (layer.Unit pos) = refl
  catch_level _ = refl

  pub catch_seen : (e : Expr) → (walk.seen_expr r e).catch ≡ catch_of e
  catch_seen e = ap (λ (s : walk.Seen r). s.catch) (seen_level e) ∙ catch_level (out-Expr e)

  pos_level : (l : ExprLayer) → (level l).pos ≡ position_at l
  pos_level (layer.Stmt block) = ap (λ (s : walk.Seen r). s.pos) (fold_out-StmtBlock (walk.Seen r) (walk.SeenStmt r)
      (walk.SeenConditional r) (walk.SeenCall r) (walk.SeenEntry r) (walk.Seen r) (walk.expr_step r) (walk.stmt_step r)
      (walk.conditional_step r) (walk.call_step r) (walk.entry_step r) (walk.block_step r) block)
  pos_level _ = refl

  pub pos_seen : (e : Expr) → (walk.seen_expr r e).pos ≡ position_of e
  pos_seen e = ap (λ (s : walk.Seen r). s.pos) (seen_level e) ∙ pos_level (out-Expr e)
