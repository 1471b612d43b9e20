-- What a call's result says of a form, from one level of the form.
use Rattle.std.proofs.Common.{◌≡◌, ap, sym, ◌∙◌, subst, List, [], ◌∷◌, ◌++◌, Bool, true, false, IsTrue, refl, Result, Ok, Err}
use Rattle.std.proofs.Common.{if◌then◌else◌, ◌&&◌}
use Rattle.std.specs.Prelude.{Option}
use Rattle.std.specs.Result.{IfErr, OnOk}
use Rattle.std.specs.declared.num.NonZeroUsize.{NonZeroUsize}
use Rattle.rhai_tree.specs.declared.fault.CheckFault.{CheckFault}
use Rattle.rhai_tree.specs.declared.fault.CheckFault.TheVariants.{BadAssignment, LoopControlOutside}
use Rattle.rhai_check.specs.declared.check.declared.Declared.{Declared}
use Rattle.rhai_check.specs.declared.check.place.Place.{Place}
use Rattle.rhai_tree.specs.declared.expr.Expr.{Expr, out-Expr}
use Rattle.rhai_tree.specs.declared.expr.Ident.{Ident}
use Rattle.rhai_tree.specs.declared.expr.Stmt.{Stmt, out-Stmt}
use Rattle.rhai_tree.specs.declared.flags.ASTFlags.{ASTFlags}
use Rattle.rhai_tree.specs.declared.position.Position.{Position}
use Rattle.rhai_tree.specs.Layers.{ExprLayer, StmtLayer}
use Rattle.rhai_tree.specs.Context.{Context, importing}
use Rattle.rhai_check.specs.Around.{above, around}
use Rattle.rhai_check.specs.MemoryNeeds as declares
use Rattle.rhai_check.specs.MemoryNeeds.{expr_needs_memory}
use Rattle.rhai_tree.specs.Reading as walk
use Rattle.rhai_tree.specs.Reading.{faulty, sound}
use Rattle.rhai_tree.specs.Frame.{tests_of, resolves_stmt, var_names}
use Rattle.rhai_tree.specs.Names.{Frame, Name, with_import}
use Rattle.rhai_check.specs.Refusals.{IsFirst, Refuses}
use Rattle.rhai_tree.specs.WellFormed.{seen_expr, seen_stmt, target_faults, control_faults, var_faults}
use Rattle.rhai_check.proofs.Refused.{refuses_more}
use Rattle.rhai_check.proofs.Scopes.{around_var, above_var, imported_above}
use Rattle.rhai_check.proofs.Walk.{expr_faults, stmt_faults, expr_declares, seen-expr, seen-stmt}
use Rattle.rhai_check.proofs.Walk.{Seen, SeenStmt, refuses_expr_at}
use Rattle.rhai_tree.proofs.Walk.{Tests, expr_tests, stmt_tests, resolves-expr, resolves-stmt}

-- what always holds holds where a call gives no error
pub given_ok : {A : Type 0} {P : Type 0} (r : Result A CheckFault) → P → OnOk r P
given_ok (Ok x) p = p
given_ok (Err e) p = tt

-- what follows from what holds where a call gives no error
pub ok_then : {A : Type 0} {P Q : Type 0} (r : Result A CheckFault) → (P → Q) → OnOk r P → OnOk r Q
ok_then (Ok x) f p = f p
ok_then (Err e) f p = tt

-- what follows from what a call says of its error
pub err_then : {A : Type 0} {P Q : CheckFault → Type 0} (r : Result A CheckFault) → ((e : CheckFault) → P e → Q e) → IfErr r P → IfErr r Q
err_then (Ok x) f p = tt
err_then (Err e) f p = f e p

-- a form without faults
pub exact_expr_at : {A : Type 0} (r : Result A CheckFault) (e : Expr) (l : ExprLayer) (c : Context) → out-Expr e ≡ l
    → OnOk r ((walk.expr_step faulty (expr_faults l)).value c ≡ []) → OnOk r ((seen_expr e).value c ≡ [])
exact_expr_at r e l c is h = subst (λ (s : Seen). OnOk r (s.value c ≡ [])) (sym (seen-expr e l is)) h

pub exact_stmt_at : {A : Type 0} (r : Result A CheckFault) (s : Stmt) (l : StmtLayer) (c d : Context) → out-Stmt s ≡ l
    → OnOk r (walk.stmt_step faulty (stmt_faults l) c ≡ ([], d)) → OnOk r (seen_stmt s c ≡ ([], d))
exact_stmt_at r s l c d is h = subst (λ (f : SeenStmt). OnOk r (f c ≡ ([], d))) (sym (seen-stmt s l is)) h

pub resolved_expr_at : {A : Type 0} (r : Result A CheckFault) (e : Expr) (l : ExprLayer) (d : Declared) → out-Expr e ≡ l
    → OnOk r ((base : Frame) → IsTrue ((walk.expr_step sound (expr_tests l)).value (above base d)))
    → OnOk r ((base : Frame) → IsTrue ((tests_of e).value (above base d)))
resolved_expr_at r e l d is h =
    subst (λ (s : Tests). OnOk r ((base : Frame) → IsTrue (s.value (above base d)))) (sym (resolves-expr e l is)) h

pub resolved_stmt_at : {A : Type 0} (r : Result A CheckFault) (s : Stmt) (l : StmtLayer) (d new : Declared) → out-Stmt s ≡ l
    → OnOk r ((base : Frame) → walk.stmt_step sound (stmt_tests l) (above base d) ≡ (true, above base new))
    → OnOk r ((base : Frame) → resolves_stmt s (above base d) ≡ (true, above base new))
resolved_stmt_at r s l d new is h = subst
    (λ (f : walk.SeenStmt sound). OnOk r ((base : Frame) → f (above base d) ≡ (true, above base new))) (sym (resolves-stmt s l is)) h

-- a statement that declares nothing may run where what it stands on may
pub runs_stmt_at : {A : Type 0} (r : Result A CheckFault) (s : Stmt) (l : StmtLayer) (value : walk.Finds sound) (d new : Declared)
    → out-Stmt s ≡ l → ((frame : Frame) → walk.stmt_step sound (stmt_tests l) frame ≡ (value frame, frame))
    → OnOk r ((base : Frame) → IsTrue (value (above base d))) → OnOk r (new ≡ d)
    → OnOk r ((base : Frame) → resolves_stmt s (above base d) ≡ (true, above base new))
runs_stmt_at (Ok x) s l value d new is whole h same = λ base.
    ap (λ (f : walk.SeenStmt sound). f (above base d)) (resolves-stmt s l is) ∙ whole (above base d)
    ∙ (λ i. (h base i, above base (sym same i)))
runs_stmt_at (Err e) s l value d new is whole h same = tt

-- two parts that may run
pub both_run : {A : Type 0} (r : Result A CheckFault) (f g : walk.Finds sound) (d : Declared)
    → ((base : Frame) → IsTrue (f (above base d))) → OnOk r ((base : Frame) → IsTrue (g (above base d)))
    → OnOk r ((base : Frame) → IsTrue (f (above base d) && g (above base d)))
both_run (Ok x) f g d one other = λ base. ap (λ (b : Bool). b && g (above base d)) (one base) ∙ other base
both_run (Err e) f g d one other = tt

-- a form that may always run
pub runs_at : (e : Expr) (l : ExprLayer) (frame : Frame) → out-Expr e ≡ l → IsTrue ((walk.expr_step sound (expr_tests l)).value frame)
    → IsTrue ((tests_of e).value frame)
runs_at e l frame is h = ap (λ (s : Tests). s.value frame) (resolves-expr e l is) ∙ h

pub refused_expr_at : {A : Type 0} (r : Result A CheckFault) (e : Expr) (l : ExprLayer) (c : Context) → out-Expr e ≡ l
    → IfErr r (λ fault. Refuses ((walk.expr_step faulty (expr_faults l)).value c) (declares.form_step (expr_declares l)) fault)
    → IfErr r (λ fault. Refuses ((seen_expr e).value c) (expr_needs_memory e) fault)
refused_expr_at r e l c is h = err_then r (λ fault. refuses_expr_at e l c fault is) h

-- the left side of an assignment that is no place
pub target_refused : (s : Seen) (c : Context) (pos : Position) → s.is_place ≡ false → pos ≡ s.start
    → IsFirst (target_faults s c) (BadAssignment pos)
target_refused s c pos not_place is = rw (not_place, is) refl

-- a fault of a variable's value
pub value_of_var_refused : (s : Seen) (index : Option NonZeroUsize) (ident : Ident) (options : ASTFlags) (pos : Position) (c : Context)
    (declares : Bool) (e : CheckFault) → var_faults index ident s options pos c ≡ s.value c → Refuses (s.value c) declares e
    → Refuses (var_faults index ident s options pos c) true e
value_of_var_refused s index ident options pos c declares e same h = refuses_more (s.value c) _ declares true e
    (λ k. subst (λ (fs : List CheckFault). IsFirst fs e) (sym same) k) (λ k. refl) h

-- a variable, with what surrounds the next statement
pub var_passes : {A : Type 0} (r : Result A CheckFault) (faults : List CheckFault) (index : Option NonZeroUsize) (name : Name)
    (place : Place) (d new : Declared) → OnOk r (faults ≡ []) → OnOk r (new ≡ record d { names = var_names index name d.names })
    → OnOk r (◌≡◌ {A = List CheckFault × Context} (faults, walk.after_var faulty index name (around d place)) ([], around new place))
var_passes (Ok x) faults index name place d new none is = rw (none, around_var index name d place, is) refl
var_passes (Err e) faults index name place d new none is = tt

pub var_runs : {A : Type 0} (r : Result A CheckFault) (value : walk.Finds sound) (index : Option NonZeroUsize) (name : Name)
    (d new : Declared) → OnOk r ((base : Frame) → IsTrue (value (above base d))) →
    OnOk r (new ≡ record d { names = var_names index name d.names })
    → OnOk r ((base : Frame) →
    ◌≡◌ {A = Bool × Frame} (value (above base d), walk.after_var sound index name (above base d)) (true, above base new))
var_runs (Ok x) value index name d new h is = λ base. rw (h base, above_var index name base d, is) refl
var_runs (Err e) value index name d new h is = tt

-- an import, with what surrounds the next statement
pub import_passes : {A : Type 0} (r : Result A CheckFault) (faults : List CheckFault) (name : Name) (place : Place) (d new : Declared)
    → faults ≡ [] → OnOk r (new ≡ record d { imports = d.imports ++ name ∷ [] })
    → OnOk r (◌≡◌ {A = List CheckFault × Context} (faults, importing name (around d place)) ([], around new place))
import_passes (Ok x) faults name place d new none is = rw (none, is) refl
import_passes (Err e) faults name place d new none is = tt

pub import_runs : {A : Type 0} (r : Result A CheckFault) (value : walk.Finds sound) (name : Name) (d new : Declared)
    → ((base : Frame) → IsTrue (value (above base d))) → OnOk r (new ≡ record d { imports = d.imports ++ name ∷ [] })
    → OnOk r ((base : Frame) → ◌≡◌ {A = Bool × Frame} (value (above base d), with_import name (above base d)) (true, above base new))
import_runs (Ok x) value name d new h is = λ base. rw (h base, imported_above base d name, is) refl
import_runs (Err e) value name d new h is = tt

-- a `break` or a `continue` in a loop
pub control_passes : {A : Type 0} (r : Result A CheckFault) (pos : Position) (c : Context) (fs : List CheckFault) → c.in_loop ≡ true
    → OnOk r (fs ≡ []) → OnOk r (control_faults pos c ++ fs ≡ [])
control_passes r pos c fs inside h =
    subst (λ (b : Bool). OnOk r ((if b then [] else LoopControlOutside pos ∷ []) ++ fs ≡ [])) (sym inside) h

pub control_refused : {A : Type 0} (r : Result A CheckFault) (pos : Position) (c : Context) (fs : List CheckFault) (declares : Bool)
    → c.in_loop ≡ true → IfErr r (λ fault. Refuses fs declares fault)
    → IfErr r (λ fault. Refuses (control_faults pos c ++ fs) declares fault)
control_refused r pos c fs declares inside h = subst
    (λ (b : Bool). IfErr r (λ fault. Refuses ((if b then [] else LoopControlOutside pos ∷ []) ++ fs) declares fault)) (sym inside) h

-- a loop whose condition and body pass
pub loop_passes : {A : Type 0} (r : Result A CheckFault) (test body : List CheckFault) (place : Place) (d new : Declared)
    → test ≡ [] → OnOk r (body ≡ []) → OnOk r (new ≡ d)
    → OnOk r (◌≡◌ {A = List CheckFault × Context} (test ++ body, around d place) ([], around new place))
loop_passes (Ok x) test body place d new t b same = rw (t, b, same) refl
loop_passes (Err e) test body place d new t b same = tt
