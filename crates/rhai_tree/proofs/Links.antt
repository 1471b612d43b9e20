-- The links that are seen of a chain are those that it has, and where it may run a list counts them.
use Rattle.std.proofs.Common.{◌≡◌, ◌≤◌, ◌+◌, ℕ, zero, suc, refl, ap, ◌∙◌, sym, subst, arith, le-leb, leb-true, Bool, true, false}
use Rattle.std.proofs.Common.{◌&&◌, IsTrue, if◌then◌else◌}
use Rattle.rhai_tree.specs.declared.expr.ConditionalExpr.{ConditionalExpr}
use Rattle.rhai_tree.specs.declared.expr.Expr.{Expr, out-Expr}
use Rattle.rhai_tree.specs.declared.expr.Expr.TheOpen as layer
use Rattle.rhai_tree.specs.declared.expr.Expr.TheFolds.{map-Expr, fold_out-Expr, fold_out-StmtBlock}
use Rattle.rhai_tree.specs.declared.expr.FnCallExpr.{FnCallExpr}
use Rattle.rhai_tree.specs.declared.expr.MapEntry.{MapEntry}
use Rattle.rhai_tree.specs.declared.expr.Stmt.{Stmt}
use Rattle.rhai_tree.specs.declared.expr.StmtBlock.{StmtBlock}
use Rattle.rhai_tree.specs.Layers.{ExprLayer}
use Rattle.rhai_tree.specs.Frame.{tests_of, resolves_expr, target_resolves}
use Rattle.rhai_tree.specs.Links.{links_step, links_in, links, most_links, is_counted}
use Rattle.rhai_tree.specs.Names.{Frame}
use Rattle.rhai_tree.specs.Reading as walk
use Rattle.rhai_tree.specs.Reading.{sound}
use Rattle.rhai_tree.proofs.Walk.{expr_tests, resolves-expr}

-- the fold at one level
abbrev links_of_parts : ExprLayer → layer.Expr-F ℕ (Unit {0}) (Unit {0}) (Unit {0}) (Unit {0}) (Unit {0})
links_of_parts = map-Expr Expr Stmt ConditionalExpr FnCallExpr MapEntry StmtBlock ℕ (Unit {0}) (Unit {0}) (Unit {0}) (Unit {0}) (Unit {0})
    links_in (λ stmt. tt) (λ conditional. tt) (λ call. tt) (λ entry. tt) (λ block. tt)

links_at : (form : ExprLayer) → links_step (links_of_parts form) ≡ links form
links_at (layer.Index lhs rhs options pos) = refl
links_at (layer.Dot lhs rhs options pos) = refl
links_at _ = refl

-- the links of a chain from one level of it
pub links_same : (e : Expr) → links_in e ≡ links (out-Expr e)
links_same e = fold_out-Expr ℕ (Unit {0}) (Unit {0}) (Unit {0}) (Unit {0}) (Unit {0}) links_step (λ stmt. tt) (λ conditional. tt)
    (λ call. tt) (λ entry. tt) (λ block. tt) e
    ∙ links_at (out-Expr e)

-- a block is no chain
block_links : (block : StmtBlock) → (walk.seen_block sound block).links ≡ 0
block_links block = ap (λ (s : walk.Seen sound). s.links) (fold_out-StmtBlock (walk.Seen sound) (walk.SeenStmt sound)
    (walk.SeenConditional sound)
    (walk.SeenCall sound) (walk.SeenEntry sound) (walk.Seen sound) (walk.expr_step sound) (walk.stmt_step sound)
    (walk.conditional_step sound)
    (walk.call_step sound) (walk.entry_step sound) (walk.block_step sound) block)

-- what is seen of one level
abbrev pub level : ExprLayer → walk.Seen sound
level l = walk.expr_step sound (expr_tests l)

-- as many are seen of it as it has, where that holds of each that has fewer
level_links : (l : ExprLayer) → ((rest : Expr) → 1 + links_in rest ≤ links l → (tests_of rest).links ≡ links_in rest) →
    (level l).links ≡ links l
level_links (layer.Dot lhs rhs options pos) fewer = ap (λ n. 1 + n) (fewer rhs (omega arith))
level_links (layer.Index lhs rhs options pos) fewer = ap (λ n. 1 + n) (fewer rhs (omega arith))
level_links (layer.Stmt block) fewer = block_links block
level_links _ fewer = refl

seen_as : (e : Expr) → (level (out-Expr e)).links ≡ links (out-Expr e) → (tests_of e).links ≡ links_in e
seen_as e is = ap (λ (s : walk.Seen sound). s.links) (resolves-expr e (out-Expr e) refl) ∙ is ∙ sym (links_same e)

within : (n : ℕ) (e : Expr) → links_in e ≤ n → (tests_of e).links ≡ links_in e
within zero e few = seen_as e (level_links (out-Expr e) (λ rest less. absurd (omega (arith, less, few, links_same e))))
within (suc n) e few = seen_as e (level_links (out-Expr e) (λ rest less. within n rest (omega (arith, less, few, links_same e))))

-- as many links are seen of a chain as it has
pub links_seen : (e : Expr) → (tests_of e).links ≡ links_in e
links_seen e = within (links_in e) e (omega arith)

-- ---- a chain whose links were counted

-- those that are seen of one level are counted with it
pub counted_at : (e : Expr) (l : ExprLayer) → out-Expr e ≡ l → links_in e ≤ most_links → IsTrue (is_counted (level l).links)
counted_at e l is few = subst (λ (s : walk.Seen sound). IsTrue (is_counted s.links)) (resolves-expr e l is)
    (le-leb _ _ (omega (arith, few, links_seen e)))

pub all_three : (a b c : Bool) → IsTrue a → IsTrue b → IsTrue c → IsTrue (a && (b && c))
all_three true true c one two three = three
all_three true false c one two three = two
all_three false b c one two three = one

-- ---- a chain that may run

front : (a b : Bool) → IsTrue (a && b) → IsTrue a
front true b h = refl
front false b h = h

few_at : (l : ExprLayer) (frame : Frame) → IsTrue ((level l).value frame) → IsTrue (is_counted (level l).links)
few_at (layer.Dot lhs rhs options pos) frame h = front _ _ h
few_at (layer.Index lhs rhs options pos) frame h = front _ _ h
few_at (layer.Stmt block) frame h = subst (λ (n : ℕ). IsTrue (is_counted n)) (sym (block_links block)) refl
few_at _ frame h = refl

-- it has no more links than a list counts
pub few_links : (e : Expr) (frame : Frame) → IsTrue (resolves_expr e frame) → links (out-Expr e) ≤ most_links
few_links e frame h =
    let seen = resolves-expr e (out-Expr e) refl in
    let counted = few_at (out-Expr e) frame (subst (λ (s : walk.Seen sound). IsTrue (s.value frame)) seen h) in
    leb-true _ _ (subst (λ (n : ℕ). IsTrue (is_counted n)) (sym (ap (λ (s : walk.Seen sound). s.links) seen) ∙ links_seen e ∙ links_same e)
    counted)

placed : (place b : Bool) → IsTrue (if place then b else (false && b)) → IsTrue b
placed true b h = h
placed false b h = cc

-- so does one that is assigned to
pub few_in_target : (lhs : Expr) (frame : Frame) → IsTrue (target_resolves (tests_of lhs) frame) → links (out-Expr lhs) ≤ most_links
few_in_target lhs frame h = few_links lhs frame (placed (tests_of lhs).is_place (resolves_expr lhs frame) h)
