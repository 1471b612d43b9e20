-- A fault of a part is a fault of what contains the part.
use Rattle.std.proofs.Common.{◌≡◌, ◌≢◌, Bool, true, false, ◌||◌, IsTrue, List, [], ◌∷◌, ◌++◌, refl, sym, ap, ◌∙◌, subst, length, ◌<◌, ℕ}
use Rattle.std.proofs.Common.{suc, arith, Result, Ok, Err, drop, map, get_or}
use Rattle.std.specs.List.{Contains}
use Rattle.std.proofs.lemmas.List.Elements.{Contains-append_right}
use Rattle.std.specs.Result.{IsErr, IsErrAnd, IfErr}
use Rattle.std.proofs.Math.Seq.{drop-cons}
use Rattle.rhai_tree.specs.declared.fault.CheckFault.{CheckFault}
use Rattle.rhai_tree.specs.declared.fault.CheckFault.TheVariants.{BadOffset, BadImportOffset, BadChain, BadAssignment, BadSwitch}
use Rattle.rhai_tree.specs.declared.fault.CheckFault.TheVariants.{BadMapKey, BadCatch, LoopControlOutside, ExportNotGlobal, EvalCall}
use Rattle.rhai_tree.specs.declared.fault.CheckFault.TheVariants.{NotAnExpression, QualifiedMethod, NoMemory}
use Rattle.rhai_tree.specs.declared.expr.Expr.{Expr}
use Rattle.rhai_tree.specs.declared.expr.Stmt.{Stmt}
use Rattle.rhai_tree.specs.Context.{Context}
use Rattle.rhai_tree.specs.Forms.{any_of}
use Rattle.rhai_check.specs.MemoryNeeds.{any_need, needs_of, expr_needs_memory, stmt_needs_memory}
use Rattle.rhai_check.specs.Refusals.{IsFirst, Refuses}
use Rattle.rhai_tree.specs.WellFormed.{seen_expr, seen_stmt, faults_in_all, faults_in_list}

either_left : (a b : Bool) → IsTrue a → IsTrue (a || b)
either_left true b e = e
either_left false b e = cc

either_right : (a b : Bool) → IsTrue b → IsTrue (a || b)
either_right true b e = refl
either_right false b e = e

-- what refuses a part, a fault or memory that ran out, refuses the whole
pub refuses_more : (fs gs : List CheckFault) (a b : Bool) (e : CheckFault) → (IsFirst fs e → IsFirst gs e) → (IsTrue a → IsTrue b)
    → Refuses fs a e → Refuses gs b e
refuses_more fs gs a b (BadOffset pos) f g h = f h
refuses_more fs gs a b (BadImportOffset pos) f g h = f h
refuses_more fs gs a b (BadChain pos) f g h = f h
refuses_more fs gs a b (BadAssignment pos) f g h = f h
refuses_more fs gs a b (BadSwitch pos) f g h = f h
refuses_more fs gs a b (BadMapKey pos) f g h = f h
refuses_more fs gs a b (BadCatch pos) f g h = f h
refuses_more fs gs a b (LoopControlOutside pos) f g h = f h
refuses_more fs gs a b (ExportNotGlobal pos) f g h = f h
refuses_more fs gs a b (EvalCall pos) f g h = f h
refuses_more fs gs a b (NotAnExpression pos) f g h = f h
refuses_more fs gs a b (QualifiedMethod pos) f g h = f h
refuses_more fs gs a b NoMemory f g h = g h

first_of : (fs gs : List CheckFault) (e : CheckFault) → IsFirst fs e → IsFirst (fs ++ gs) e
first_of [] gs e h = absurd h
first_of (f ∷ fs) gs e h = h

pub refuses_first : (fs gs : List CheckFault) (a b : Bool) (e : CheckFault) → Refuses fs a e → Refuses (fs ++ gs) (a || b) e
refuses_first fs gs a b e h = refuses_more fs (fs ++ gs) a (a || b) e (first_of fs gs e) (either_left a b) h

pub refuses_later : (fs gs : List CheckFault) (a b : Bool) (e : CheckFault) → fs ≡ [] → Refuses gs b e → Refuses (fs ++ gs) (a || b) e
refuses_later fs gs a b e none h = refuses_more gs (fs ++ gs) b (a || b) e (λ k. rw none k) (either_right a b) h

-- of a form that may need memory
pub refuses_front : (fs gs : List CheckFault) (a : Bool) (e : CheckFault) → Refuses fs a e → Refuses (fs ++ gs) true e
refuses_front fs gs a e h = refuses_more fs (fs ++ gs) a true e (first_of fs gs e) (λ k. refl) h

pub refuses_behind : (fs gs : List CheckFault) (b : Bool) (e : CheckFault) → fs ≡ [] → Refuses gs b e → Refuses (fs ++ gs) true e
refuses_behind fs gs b e none h = refuses_more gs (fs ++ gs) b true e (λ k. rw none k) (λ k. refl) h

pub refuses_memory : (fs : List CheckFault) (declares : Bool) (e : CheckFault) → e ≡ NoMemory → declares ≡ true → Refuses fs declares e
refuses_memory fs declares e is h = subst (λ (z : CheckFault). Refuses fs declares z) (sym is) h

-- an error that is handed on
pub refused : {A : Type 0} (r : Result A CheckFault) (faults : List CheckFault) (declares : Bool) (e : CheckFault)
    → IsErr r × IsErrAnd r (λ y. y ≡ e) → Refuses faults declares e → IfErr r (λ fault. Refuses faults declares fault)
refused (Ok x) faults declares e (is, and) h = absurd and
refused (Err y) faults declares e (is, and) h = subst (λ (z : CheckFault). Refuses faults declares z) (sym and) h

-- an error of the expression at an index is one of the list
pub refuses_expr : (exprs : List Expr) (i : ℕ) (x : Expr) (c : Context) (e : CheckFault) → i < length exprs → x ≡ get_or exprs i x
    → faults_in_all (map seen_expr exprs) c ≡ faults_in_all (map seen_expr (drop i exprs)) c
    → (IsTrue (any_need (map needs_of (drop i exprs))) → IsTrue (any_need (map needs_of exprs)))
    → Refuses ((seen_expr x).value c) (expr_needs_memory x) e
    → Refuses (faults_in_all (map seen_expr exprs) c) (any_need (map needs_of exprs)) e
refuses_expr exprs i x c e lt is same declares h =
    let here : drop i exprs ≡ x ∷ drop (suc i) exprs = drop-cons exprs i x lt ∙ ap (λ y. y ∷ drop (suc i) exprs) (sym is) in
    let rest = λ (fs : List Expr). faults_in_all (map seen_expr fs) c in
    let whole : faults_in_all (map seen_expr exprs) c ≡ (seen_expr x).value c ++ faults_in_all (map seen_expr (drop (suc i) exprs)) c =
    same ∙ ap rest here in
    let first = refuses_first ((seen_expr x).value c) (faults_in_all (map seen_expr (drop (suc i) exprs)) c) (expr_needs_memory x)
    (any_need (map needs_of (drop (suc i) exprs))) e h in
    refuses_more _ _ (any_need (map needs_of (drop i exprs))) _ e (λ k. k) declares (rw (whole, here) first)

pub refuses_stmt : (stmts : List Stmt) (i : ℕ) (x : Stmt) (c d : Context) (e : CheckFault) → i < length stmts → x ≡ get_or stmts i x
    → faults_in_list (map seen_stmt stmts) c ≡ faults_in_list (map seen_stmt (drop i stmts)) d
    → (IsTrue (any_of (map stmt_needs_memory (drop i stmts))) → IsTrue (any_of (map stmt_needs_memory stmts)))
    → Refuses (seen_stmt x d).0 (stmt_needs_memory x) e
    → Refuses (faults_in_list (map seen_stmt stmts) c).0 (any_of (map stmt_needs_memory stmts)) e
refuses_stmt stmts i x c d e lt is same declares h =
    let here : drop i stmts ≡ x ∷ drop (suc i) stmts = drop-cons stmts i x lt ∙ ap (λ y. y ∷ drop (suc i) stmts) (sym is) in
    let rest = λ (fs : List Stmt). (faults_in_list (map seen_stmt fs) d).0 in
    let whole : (faults_in_list (map seen_stmt stmts) c).0 ≡ (seen_stmt x d).0 ++
    (faults_in_list (map seen_stmt (drop (suc i) stmts)) (seen_stmt x d).1).0 = ap (λ p. p.0) same ∙ ap rest here in
    let first = refuses_first (seen_stmt x d).0 (faults_in_list (map seen_stmt (drop (suc i) stmts)) (seen_stmt x d).1).0
    (stmt_needs_memory x) (any_of (map stmt_needs_memory (drop (suc i) stmts))) e h in
    refuses_more _ _ (any_of (map stmt_needs_memory (drop i stmts))) _ e (λ k. k) declares (rw (whole, here) first)

-- the first fault is one of them
stands_first : (faults : List CheckFault) (e : CheckFault) → IsFirst faults e → Contains faults e
stands_first [] e h = absurd h
stands_first (f ∷ fs) e h = (0, omega arith, h)

stands : (faults : List CheckFault) (declares : Bool) (e : CheckFault) → Refuses faults declares e → e ≢ NoMemory → Contains faults e
stands faults declares (BadOffset pos) h not = stands_first faults (BadOffset pos) h
stands faults declares (BadImportOffset pos) h not = stands_first faults (BadImportOffset pos) h
stands faults declares (BadChain pos) h not = stands_first faults (BadChain pos) h
stands faults declares (BadAssignment pos) h not = stands_first faults (BadAssignment pos) h
stands faults declares (BadSwitch pos) h not = stands_first faults (BadSwitch pos) h
stands faults declares (BadMapKey pos) h not = stands_first faults (BadMapKey pos) h
stands faults declares (BadCatch pos) h not = stands_first faults (BadCatch pos) h
stands faults declares (LoopControlOutside pos) h not = stands_first faults (LoopControlOutside pos) h
stands faults declares (ExportNotGlobal pos) h not = stands_first faults (ExportNotGlobal pos) h
stands faults declares (EvalCall pos) h not = stands_first faults (EvalCall pos) h
stands faults declares (NotAnExpression pos) h not = stands_first faults (NotAnExpression pos) h
stands faults declares (QualifiedMethod pos) h not = stands_first faults (QualifiedMethod pos) h
stands faults declares NoMemory h not = absurd (not refl)

-- a fault of a later part that is handed on stands in the whole
pub later_stands : {A : Type 0} (r : Result A CheckFault) (fs gs : List CheckFault) (declares : Bool) (e : CheckFault)
    → IsErr r × IsErrAnd r (λ y. y ≡ e) → Refuses gs declares e → IfErr r (λ fault. fault ≢ NoMemory → Contains (fs ++ gs) fault)
later_stands (Ok x) fs gs declares e (is, and) h = absurd and
later_stands (Err y) fs gs declares e (is, and) h = λ not.
    Contains-append_right fs gs y (stands gs declares y (subst (λ (z : CheckFault). Refuses gs declares z) (sym and) h) not)
