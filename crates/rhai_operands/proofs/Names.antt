-- What it says of a form's parts that it resolves above a frame.
use Rattle.std.proofs.Common.{◌≡◌, Bool, true, false, ◌&&◌, IsTrue, subst, [], ◌∷◌, map, refl, if◌then◌else◌, Option}
use Rattle.std.specs.declared.num.NonZeroUsize.{NonZeroUsize}
use Rattle.rhai_tree.specs.declared.expr.Expr.{Expr, out-Expr}
use Rattle.rhai_tree.specs.declared.expr.Expr.TheOpen as layer
use Rattle.rhai_tree.specs.declared.expr.Expr.TheFolds.{fold_out-FnCallExpr}
use Rattle.rhai_tree.specs.declared.expr.FnCallExpr.{FnCallExpr}
use Rattle.rhai_tree.specs.declared.expr.Namespace.{Namespace}
use Rattle.rhai_tree.specs.declared.position.Position.{Position}
use Rattle.rhai_tree.specs.Frame.{tests_of, resolves_expr, resolves_call, all_resolve_exprs, target_resolves}
use Rattle.rhai_tree.specs.Names.{Frame, Name}
use Rattle.rhai_tree.specs.Reading as walk
use Rattle.rhai_tree.specs.Reading.{sound}
use Rattle.rhai_tree.proofs.Walk.{resolves-expr}
use Rattle.rhai_steps.specs.Agreement.{call_leads, root_is_good, variable_is_good, variable_leads}

pub both : (a b : Bool) → IsTrue (a && b) → IsTrue a × IsTrue b
both true true h = (refl, refl)
both true false h = (refl, h)
both false b h = (h, cc)

all_hold : (a b : Bool) → IsTrue a → IsTrue b → IsTrue (a && b)
all_hold true b is holds = holds
all_hold false b is holds = is

-- what resolves under a test has the test
pub holds_then : (test b : Bool) → IsTrue (if test then b else false) → IsTrue test × IsTrue b
holds_then true b h = (refl, h)
holds_then false b h = (h, cc)

pub fails_then : (test b : Bool) → IsTrue (if test then false else b) → (test ≡ false) × IsTrue b
fails_then true b h = (cc, cc)
fails_then false b h = (refl, h)

two_resolve : (left right : Expr) (frame : Frame) → IsTrue (all_resolve_exprs (map tests_of (left ∷ right ∷ [])) frame) →
    IsTrue (resolves_expr left frame) × IsTrue (resolves_expr right frame)
two_resolve left right frame h =
    let first = both (resolves_expr left frame) (resolves_expr right frame && true) h in
    (first.0, (both (resolves_expr right frame) true first.1).0)

module _ (call : FnCallExpr) (pos : Position) (frame : Frame) (h : IsTrue (resolves_call call pos frame)) where
  parts_of_call : IsTrue (walk.found_in_namespace sound call.namespace frame) × IsTrue (all_resolve_exprs (map tests_of call.args) frame)
  parts_of_call =
      let opened = fold_out-FnCallExpr (walk.Seen sound) (walk.SeenStmt sound) (walk.SeenConditional sound) (walk.SeenCall sound)
      (walk.SeenEntry sound) (walk.Seen sound) (walk.expr_step sound) (walk.stmt_step sound) (walk.conditional_step sound)
      (walk.call_step sound)
      (walk.entry_step sound) (walk.block_step sound) call in
      both _ _ (fails_then _ _ (subst (λ (s : walk.SeenCall sound). IsTrue (s.value pos frame)) opened h)).1

  -- the arguments of a call that resolves do
  pub operands_of_call : IsTrue (all_resolve_exprs (map tests_of call.args) frame)
  operands_of_call = parts_of_call.1

  -- and the index of its path is good
  pub path_of_call : IsTrue (call_leads call.namespace call.args frame)
  path_of_call = all_hold (root_is_good call.namespace frame) (all_resolve_exprs (map tests_of call.args) frame)
      (holds_then (root_is_good call.namespace frame) true parts_of_call.0).0 parts_of_call.1

-- the operands of a call that resolves do
pub operands_resolve : (call : FnCallExpr) (pos : Position) (left right : Expr) (frame : Frame) → call.args ≡ left ∷ right ∷ [] →
    IsTrue (resolves_call call pos frame) →
    IsTrue (resolves_expr left frame) × IsTrue (resolves_expr right frame)
operands_resolve call pos left right frame is h = two_resolve left right frame (rw is at (operands_of_call call pos frame h))

-- those of an expression that is such a call
pub call_resolves : (e : Expr) (call : FnCallExpr) (pos : Position) (left right : Expr) (frame : Frame) →
    out-Expr e ≡ layer.Expr::FnCall call pos → call.args ≡ left ∷ right ∷ [] → IsTrue (resolves_expr e frame) →
    IsTrue (resolves_expr left frame) × IsTrue (resolves_expr right frame)
call_resolves e call pos left right frame is args h = operands_resolve call pos left right frame args
    (subst (λ (t : walk.Seen sound). IsTrue (t.value frame)) (resolves-expr e (layer.Expr::FnCall call pos) is) h)

-- the offset of a variable that resolves is good, and so is the index of its path
pub good_name : (e : Expr) (offset : Option NonZeroUsize) (name : Name) (namespace : Namespace) (pos : Position) (frame : Frame) →
    out-Expr e ≡ layer.Variable offset name namespace pos → IsTrue (resolves_expr e frame) →
    IsTrue (variable_leads offset name namespace frame)
good_name e offset name namespace pos frame is h =
    let parts = both _ _ (subst (λ (t : walk.Seen sound). IsTrue (t.value frame))
    (resolves-expr e (layer.Variable offset name namespace pos) is) h) in
    all_hold (variable_is_good offset name namespace.path frame) (root_is_good namespace frame)
    (holds_then _ true parts.1).0 (holds_then _ true parts.0).0

-- so it is with the target of an assignment
place_then : (place b : Bool) → IsTrue (if place then b else (false && b)) → IsTrue b
place_then true b h = h
place_then false b h = cc

pub good_target : (e : Expr) (offset : Option NonZeroUsize) (name : Name) (namespace : Namespace) (pos : Position) (frame : Frame) →
    out-Expr e ≡ layer.Variable offset name namespace pos → IsTrue (target_resolves (tests_of e) frame) →
    IsTrue (variable_leads offset name namespace frame)
good_target e offset name namespace pos frame is h = good_name e offset name namespace pos frame is
    (place_then (tests_of e).is_place ((tests_of e).value frame) h)
