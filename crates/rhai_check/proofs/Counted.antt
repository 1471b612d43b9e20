-- A chain whose links were counted may run where its parts may.
use Rattle.std.proofs.Common.{◌≡◌, ◌≤◌, ap, ◌∙◌, IsTrue, ◌&&◌, Result}
use Rattle.std.specs.Result.{OnOk}
use Rattle.rhai_tree.specs.declared.expr.Expr.{Expr, out-Expr}
use Rattle.rhai_tree.specs.Layers.{ExprLayer}
use Rattle.rhai_check.specs.Types.{CheckFault}
use Rattle.rhai_tree.specs.Frame.{resolves_expr}
use Rattle.rhai_tree.specs.Links.{links_in, most_links, is_counted}
use Rattle.rhai_tree.specs.Names.{Frame}
use Rattle.rhai_tree.specs.Reading as walk
use Rattle.rhai_tree.specs.Reading.{sound}
use Rattle.rhai_tree.proofs.Links.{all_three, counted_at, level}
use Rattle.rhai_tree.proofs.Walk.{resolves-expr}
use Rattle.rhai_check.proofs.Outcome.{ok_then}
use Rattle.rhai_check.specs.Around.{above}
use Rattle.rhai_check.specs.declared.check.declared.Declared.{Declared}

-- it may run where its root and what is behind it may
pub counted_runs : {A : Type 0} (r : Result A CheckFault) (e : Expr) (l : ExprLayer) (root behind : walk.Finds sound) (d : Declared)
    → out-Expr e ≡ l → ((frame : Frame) → (level l).value frame ≡ (is_counted (level l).links && (root frame && behind frame)))
    → links_in e ≤ most_links → ((base : Frame) → IsTrue (root (above base d)))
    → OnOk r ((base : Frame) → IsTrue (behind (above base d)))
    → OnOk r ((base : Frame) → IsTrue (resolves_expr e (above base d)))
counted_runs r e l root behind d is whole few one h = ok_then r (λ other base.
    ap (λ (s : walk.Seen sound). s.value (above base d)) (resolves-expr e l is) ∙ whole (above base d)
    ∙ all_three (is_counted (level l).links) (root (above base d)) (behind (above base d)) (counted_at e l is few) (one base)
    (other base)) h
