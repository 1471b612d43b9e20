-- The results that a `switch` may have are among those of its tree, which may run.
use Rattle.std.proofs.Common.{◌≡◌, ◌&&◌, ℕ, zero, suc, Bool, true, false, IsTrue, List, [], ◌∷◌, Option, Some, None, arith, map, refl}
use Rattle.std.proofs.Common.{subst}
use Rattle.std.specs.Prelude.{option_and_then, option_map, slice_get}
use Rattle.rhai_tree.specs.declared.expr.ConditionalExpr.{ConditionalExpr}
use Rattle.rhai_tree.specs.declared.expr.Expr.{Expr}
use Rattle.rhai_tree.specs.Frame.{conditionals_resolve, resolves_conditional, resolves_expr}
use Rattle.rhai_tree.specs.Names.{Frame}
use Rattle.rhai_tree.proofs.Statements.{conditional_at}
use Rattle.rhai_machine.specs.language.Cases.{results_of, with_result}

later : (a b : Bool) → IsTrue (a && b) → IsTrue b
later true b h = h
later false b h = cc

module _ (frame : Frame) where
  abbrev pub Runs : ConditionalExpr → Type 0
  Runs part = IsTrue (resolves_expr part.condition frame) × IsTrue (resolves_expr part.expr frame)

  pub result_at : (parts : List ConditionalExpr) (n : ℕ) (part : ConditionalExpr) → slice_get parts n ≡ Some part →
      IsTrue (conditionals_resolve (map resolves_conditional parts) frame) → Runs part
  result_at [] n part is h = cc
  result_at (x ∷ parts) zero part is h =
      let same : x ≡ part = cc in subst Runs same (conditional_at (x ∷ parts) zero x frame (omega arith) h)
  result_at (x ∷ parts) (suc n) part is h = result_at parts n part is (later (resolves_conditional x frame) _ h)

  module _ (parts : List ConditionalExpr) (h : IsTrue (conditionals_resolve (map resolves_conditional parts) frame)) where
    found_first : (there : Option ConditionalExpr) (n : ℕ) (numbers : List ℕ) (part : ConditionalExpr) (rest : List ConditionalExpr) →
        slice_get parts n ≡ there → with_result there (results_of parts numbers) ≡ part ∷ rest →
        (results_of parts numbers ≡ part ∷ rest → Runs part) → Runs part
    found_first None n numbers part rest is first on = on first
    found_first (Some x) n numbers part rest is first on = let same : x ≡ part = cc in subst Runs same (result_at parts n x is h)

    pub candidate_runs : (numbers : List ℕ) (part : ConditionalExpr) (rest : List ConditionalExpr) →
        results_of parts numbers ≡ part ∷ rest → Runs part
    candidate_runs [] part rest is = cc
    candidate_runs (n ∷ numbers) part rest is = found_first (slice_get parts n) n numbers part rest refl is
        (λ on. candidate_runs numbers part rest on)

    default_there : (there : Option ConditionalExpr) (n : ℕ) (result : Expr) → slice_get parts n ≡ there →
        option_map (λ (part : ConditionalExpr). part.expr) there ≡ Some result → IsTrue (resolves_expr result frame)
    default_there None n result at is = cc
    default_there (Some x) n result at is = let same : x.expr ≡ result = cc in
        subst (λ (e : Expr). IsTrue (resolves_expr e frame)) same (result_at parts n x at h).1

    pub default_runs : (number : Option ℕ) (result : Expr) → option_map (λ (part : ConditionalExpr). part.expr)
        (option_and_then (λ n. slice_get parts n) number) ≡ Some result → IsTrue (resolves_expr result frame)
    default_runs None result is = cc
    default_runs (Some n) result is = default_there (slice_get parts n) n result refl is
