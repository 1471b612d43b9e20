-- The conditions and results of a `switch`, and its cases.
use Rattle.std.proofs.Common.{◌≡◌, ◌<◌, ℕ, suc, ap, sym, ◌∙◌, subst, Bool, true, false, ◌||◌, IsTrue, List, [], ◌∷◌, ◌++◌, length, get_or}
use Rattle.std.proofs.Common.{drop, map, refl, ◌&&◌, Result}
use Rattle.std.proofs.Math.Seq.{drop-cons}
use Rattle.std.proofs.lemmas.List.{length-map}
use Rattle.std.specs.Prelude.{Option}
use Rattle.std.specs.Result.{OnOk}
use Rattle.rhai_tree.specs.declared.fault.CheckFault.{CheckFault}
use Rattle.rhai_tree.specs.declared.fault.CheckFault.TheVariants.{BadSwitch}
use Rattle.rhai_tree.specs.declared.expr.ConditionalExpr.{ConditionalExpr}
use Rattle.rhai_tree.specs.declared.expr.Expr.{Expr}
use Rattle.rhai_tree.specs.declared.expr.Expr.TheOpen as layer
use Rattle.rhai_tree.specs.declared.expr.RangeCase.{RangeCase}
use Rattle.rhai_tree.specs.declared.expr.Stmt.{Stmt, out-Stmt}
use Rattle.rhai_tree.specs.declared.expr.SwitchCase.{SwitchCase}
use Rattle.rhai_tree.specs.declared.position.Position.{Position}
use Rattle.rhai_tree.specs.Layers.{StmtLayer}
use Rattle.rhai_check.specs.declared.check.declared.Declared.{Declared}
use Rattle.rhai_check.specs.declared.check.place.Place.{Place}
use Rattle.rhai_check.specs.Around.{above, around}
use Rattle.rhai_tree.specs.Cases.{is_switch}
use Rattle.rhai_tree.specs.Context.{Context}
use Rattle.rhai_tree.specs.Frame.{resolves_expr, resolves_stmt, resolves_conditional, conditionals_resolve}
use Rattle.rhai_tree.specs.Names.{Frame}
use Rattle.rhai_tree.specs.Forms.{any_of}
use Rattle.rhai_check.specs.MemoryNeeds.{expr_needs_memory, conditional_needs_memory, stmt_needs_memory}
use Rattle.rhai_tree.specs.Reading as walk
use Rattle.rhai_tree.specs.Reading.{faulty, sound}
use Rattle.rhai_check.specs.Refusals.{IsFirst, Refuses}
use Rattle.rhai_tree.specs.WellFormed.{seen_expr, seen_conditional, seen_stmt, faults_in_conditionals}
use Rattle.rhai_check.proofs.Outcome.{ok_then, exact_stmt_at, loop_passes, runs_stmt_at, both_run}
use Rattle.rhai_check.proofs.Refused.{refuses_more, refuses_first, refuses_later}
use Rattle.rhai_check.proofs.Walk.{refuses_stmt_at}

-- an error of the condition or the result at an index is one of the list
pub refuses_conditional : (parts : List ConditionalExpr) (i : ℕ) (x : ConditionalExpr) (c : Context) (e : CheckFault)
    → i < length parts → x ≡ get_or parts i x
    → faults_in_conditionals (map seen_conditional parts) c ≡ faults_in_conditionals (map seen_conditional (drop i parts)) c
    → (IsTrue (any_of (map conditional_needs_memory (drop i parts))) → IsTrue (any_of (map conditional_needs_memory parts)))
    → Refuses (seen_conditional x c) (conditional_needs_memory x) e
    → Refuses (faults_in_conditionals (map seen_conditional parts) c) (any_of (map conditional_needs_memory parts)) e
refuses_conditional parts i x c e lt is same declares h =
    let here : drop i parts ≡ x ∷ drop (suc i) parts = drop-cons parts i x lt ∙ ap (λ y. y ∷ drop (suc i) parts) (sym is) in
    let rest = λ (fs : List ConditionalExpr). faults_in_conditionals (map seen_conditional fs) c in
    let whole : faults_in_conditionals (map seen_conditional parts) c
    ≡ seen_conditional x c ++ faults_in_conditionals (map seen_conditional (drop (suc i) parts)) c = same ∙ ap rest here in
    let first = refuses_first (seen_conditional x c) (faults_in_conditionals (map seen_conditional (drop (suc i) parts)) c)
    (conditional_needs_memory x) (any_of (map conditional_needs_memory (drop (suc i) parts))) e h in
    refuses_more _ _ (any_of (map conditional_needs_memory (drop i parts))) _ e (λ k. k) declares (rw (whole, here) first)

-- what is found of the cases of a `switch`, whose results are as many as are seen
pub cases_found : (r : walk.Reading) (parts : List ConditionalExpr) (cases : List SwitchCase) (ranges : List RangeCase)
    (default : Option ℕ) (pos : Position) (c : r.Around) (good : Bool) → is_switch (length parts) cases ranges default ≡ good →
    walk.found_in_cases r (is_switch (length (map (walk.seen_conditional r) parts)) cases ranges default) pos c
    ≡ walk.found_in_cases r good pos c
cases_found r parts cases ranges default pos c good is =
    ap (λ n. walk.found_in_cases r (is_switch n cases ranges default) pos c) (length-map parts (walk.seen_conditional r))
    ∙ ap (λ (b : Bool). walk.found_in_cases r b pos c) is

-- a statement that is a `switch`
module _ (s : Stmt) (expr : Expr) (parts : List ConditionalExpr) (cases : List SwitchCase) (ranges : List RangeCase) (default : Option ℕ)
    (pos : Position) (d : Declared) (place : Place) (is : out-Stmt s ≡ layer.Switch expr parts cases ranges default pos)
  where
    abbrev form : StmtLayer
    form = layer.Switch expr parts cases ranges default pos

    abbrev behind : List CheckFault
    behind = (seen_expr expr).value (around d place) ++ faults_in_conditionals (map seen_conditional parts) (around d place)

    pub switch_bad : is_switch (length parts) cases ranges default ≡ false →
        Refuses (seen_stmt s (around d place)).0 (stmt_needs_memory s) (BadSwitch pos)
    switch_bad bad = refuses_stmt_at s form (around d place) (BadSwitch pos) is
        (subst (λ (fs : List CheckFault). IsFirst (fs ++ behind) (BadSwitch pos))
        (sym (cases_found faulty parts cases ranges default pos (around d place) false bad)) refl)

    module _ (good : is_switch (length parts) cases ranges default ≡ true) where
      refuses_behind_cases : (e : CheckFault) → Refuses behind (expr_needs_memory expr || any_of (map conditional_needs_memory parts)) e →
          Refuses (seen_stmt s (around d place)).0 (stmt_needs_memory s) e
      refuses_behind_cases e h = refuses_stmt_at s form (around d place) e is
          (refuses_later _ behind false _ e (cases_found faulty parts cases ranges default pos (around d place) true good) h)

      pub value_refused : (e : CheckFault) → Refuses ((seen_expr expr).value (around d place)) (expr_needs_memory expr) e →
          Refuses (seen_stmt s (around d place)).0 (stmt_needs_memory s) e
      value_refused e h = refuses_behind_cases e (refuses_first _ _ _ _ e h)

      module _ (none : (seen_expr expr).value (around d place) ≡ []) where
        pub parts_refused : (e : CheckFault) →
            Refuses (faults_in_conditionals (map seen_conditional parts) (around d place)) (any_of (map conditional_needs_memory parts)) e →
            Refuses (seen_stmt s (around d place)).0 (stmt_needs_memory s) e
        parts_refused e h = refuses_behind_cases e (refuses_later _ _ _ _ e none h)

        pub switch_passes : {A : Type 0} (r : Result A CheckFault) (new : Declared) →
            OnOk r (faults_in_conditionals (map seen_conditional parts) (around d place) ≡ []) → OnOk r (new ≡ d) →
            OnOk r (seen_stmt s (around d place) ≡ ([], around new place))
        switch_passes r new h same = exact_stmt_at r s form (around d place) (around new place) is
            (loop_passes r _ behind place d new (cases_found faulty parts cases ranges default pos (around d place) true good)
            (ok_then r (λ rest. ap (λ (fs : List CheckFault).
            fs ++ faults_in_conditionals (map seen_conditional parts) (around d place)) none ∙ rest) h) same)

      pub switch_runs : {A : Type 0} (r : Result A CheckFault) (new : Declared) →
          ((base : Frame) → IsTrue (resolves_expr expr (above base d))) →
          OnOk r ((base : Frame) → IsTrue (conditionals_resolve (map resolves_conditional parts) (above base d))) →
          OnOk r (new ≡ d) → OnOk r ((base : Frame) → resolves_stmt s (above base d) ≡ (true, above base new))
      switch_runs r new one h same = runs_stmt_at r s form
          (λ ns. resolves_expr expr ns && conditionals_resolve (map resolves_conditional parts) ns) d new is
          (λ ns i. (
            cases_found sound parts cases ranges default pos ns true good i
                && (resolves_expr expr ns && conditionals_resolve (map resolves_conditional parts) ns),
            ns,
          ))
          (both_run r (resolves_expr expr) (conditionals_resolve (map resolves_conditional parts)) d one h) same
