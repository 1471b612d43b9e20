-- The root and the index of an item that may be assigned to.
use Rattle.std.proofs.Common.{◌≡◌, Bool, true, false, ◌&&◌, IsTrue, Some, refl, subst, ap, ◌∙◌}
use Rattle.std.proofs.Common.{if◌then◌else◌}
use Rattle.rhai_tree.specs.declared.expr.Expr.{Expr, out-Expr}
use Rattle.rhai_tree.specs.declared.expr.Expr.TheOpen as layer
use Rattle.rhai_tree.specs.declared.flags.ASTFlags.{ASTFlags}
use Rattle.rhai_tree.specs.declared.position.Position.{Position}
use Rattle.rhai_tree.specs.Layers.{ExprLayer}
use Rattle.rhai_tree.specs.Links.{is_counted}
use Rattle.rhai_tree.specs.Forms.{ends_chain}
use Rattle.rhai_tree.specs.Frame.{resolves_expr, target_resolves, tests_of}
use Rattle.rhai_tree.specs.Names.{Frame}
use Rattle.rhai_tree.specs.Reading as walk
use Rattle.rhai_tree.specs.Reading.{sound}
use Rattle.rhai_tree.proofs.Walk.{expr_tests, resolves-expr}
use Rattle.rhai_operands.proofs.Names.{both}
use Rattle.rhai_fast_assign.specs.Items.{index_is_simple, parts_if, parts_in}

-- what is seen of one level
abbrev level : ExprLayer → walk.Seen sound
level l = walk.expr_step sound (expr_tests l)

-- behind a bracket with such an index stands nothing else
index_resolves : (ends : Bool) (l : ExprLayer) (value : walk.Finds sound) (frame : Frame) → index_is_simple l ≡ true →
    IsTrue (walk.found_behind_bracket sound ends (level l).link value frame) → IsTrue (value frame)
index_resolves true (layer.IntegerConstant n pos) value frame is h = h
index_resolves false (layer.IntegerConstant n pos) value frame is h = h
index_resolves true (layer.Variable offset name namespace pos) value frame is h = h
index_resolves false (layer.Variable offset name namespace pos) value frame is h = h
index_resolves ends _ value frame is h = cc

-- what the parts of an item are
pub parts_are : (alone : Bool) (lhs rhs root index : Expr) → parts_if alone lhs rhs ≡ Some (root, index) →
    (alone ≡ true) × (lhs ≡ root) × (rhs ≡ index)
parts_are true lhs rhs root index is =
    let same : (lhs, rhs) ≡ (root, index) = cc in
    (refl, ap (λ (p : Expr × Expr). p.0) same, ap (λ (p : Expr × Expr). p.1) same)
parts_are false lhs rhs root index is = cc

-- and what it is of
pub parts_shown : (l : ExprLayer) (root index : Expr) → parts_in l ≡ Some (root, index) →
    (options : ASTFlags) × (pos : Position) × (l ≡ layer.Index root index options pos) × (index_is_simple (out-Expr index) ≡ true)
parts_shown (layer.Index lhs rhs options pos) root index is =
    let same = parts_are (index_is_simple (out-Expr rhs)) lhs rhs root index is in (
      options,
      pos,
      ap (λ (e : Expr). layer.Index e rhs options pos) same.1 ∙ ap (λ (e : Expr). layer.Index root e options pos) same.2,
      subst (λ (e : Expr). index_is_simple (out-Expr e) ≡ true) same.2 same.0,
    )
parts_shown _ root index is = cc

parts_resolve : (lhs rhs : Expr) (ends : Bool) (frame : Frame) → index_is_simple (out-Expr rhs) ≡ true →
    IsTrue (resolves_expr lhs frame && walk.found_behind_bracket sound ends (tests_of rhs).link (tests_of rhs).value frame) →
    IsTrue (resolves_expr lhs frame) × IsTrue (resolves_expr rhs frame)
parts_resolve lhs rhs ends frame alone h =
    let parts = both (resolves_expr lhs frame) (walk.found_behind_bracket sound ends (tests_of rhs).link (tests_of rhs).value frame) h in (
      parts.0,
      index_resolves ends (out-Expr rhs) (tests_of rhs).value frame alone
          (subst (λ (s : walk.Seen sound). IsTrue (walk.found_behind_bracket sound ends s.link (tests_of rhs).value frame))
          (resolves-expr rhs (out-Expr rhs) refl) parts.1),
    )

parts_at : (l : ExprLayer) (root index : Expr) (frame : Frame) → parts_in l ≡ Some (root, index) →
    IsTrue ((level l).value frame) → IsTrue (resolves_expr root frame) × IsTrue (resolves_expr index frame)
parts_at (layer.Index lhs rhs options pos) root index frame is h =
    let same = parts_are (index_is_simple (out-Expr rhs)) lhs rhs root index is in
    let found = parts_resolve lhs rhs (ends_chain options) frame same.0
    (both (is_counted (level (layer.Index lhs rhs options pos)).links)
    (resolves_expr lhs frame && walk.found_behind_bracket sound (ends_chain options) (tests_of rhs).link (tests_of rhs).value frame)
    h).1 in (
      subst (λ (e : Expr). IsTrue (resolves_expr e frame)) same.1 found.0,
      subst (λ (e : Expr). IsTrue (resolves_expr e frame)) same.2 found.1,
    )
parts_at _ root index frame is h = cc

place_then : (place b : Bool) → IsTrue (if place then b else (false && b)) → IsTrue b
place_then true b h = h
place_then false b h = cc

-- both may run
pub item_resolves : (e root index : Expr) (frame : Frame) → parts_in (out-Expr e) ≡ Some (root, index) →
    IsTrue (target_resolves (tests_of e) frame) → IsTrue (resolves_expr root frame) × IsTrue (resolves_expr index frame)
item_resolves e root index frame is h = parts_at (out-Expr e) root index frame is
    (subst (λ (s : walk.Seen sound). IsTrue (s.value frame)) (resolves-expr e (out-Expr e) refl)
    (place_then (tests_of e).is_place ((tests_of e).value frame) h))
