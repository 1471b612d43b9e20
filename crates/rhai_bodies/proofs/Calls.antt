-- What the machine makes of a call, as its body was let in or was not.
use Rattle.std.proofs.Common.{◌≡◌, ◌≢◌, Bool, true, false, List, [], ◌∷◌, length, Err, refl, ap}
use Rattle.rhai_errors.specs.declared.error.EvalAltResult.{EvalAltResult}
use Rattle.rhai_errors.specs.declared.error.EvalAltResult.TheVariants as error
use Rattle.rhai_state.specs.declared.limits.Limits.{Limits}
use Rattle.rhai_tree.specs.declared.expr.Stmt.{Stmt}
use Rattle.rhai_machine.specs.language.State.{Local}
use Rattle.rhai_machine.specs.language.Values.{unit_value}
use Rattle.rhai_machine.specs.language.Activations.{Entered}
use Rattle.rhai_machine.specs.language.Frames.{Frame, core, Enter, Back, Fail, CallEnd}
use Rattle.rhai_machine.specs.language.Bodies.{body_core, entered_local, exit_of, opened_function, unless_deep}
use Rattle.rhai_machine.specs.language.Bodies.{statements_of, variables_before}
use Rattle.rhai_bodies.specs.Opening.{enterable, is_deep, is_full}

module _ {H : Type 0} (e : Entered H) (k : List (Frame H)) (l : Local H) where
  -- it may not be entered
  pub refuses : (deep full : Bool) (x : EvalAltResult H) → enterable deep full e.at ≡ Err x →
      unless_deep deep full e k l ≡ core (Fail x) k l
  refuses true full x is = let same : error.ErrorStackOverflow e.at ≡ x = cc in ap (λ y. core (Fail y) k l) same
  refuses false true x is = let same : error.ErrorTooManyVariables e.at ≡ x = cc in ap (λ y. core (Fail y) k l) same
  refuses false false x is = cc

  has_body : (stmts : List Stmt) → stmts ≢ [] →
      body_core stmts e k l ≡ core (Enter stmts e.restores) (CallEnd (exit_of e l) ∷ k) (entered_local e l)
  has_body [] some = absurd (some refl)
  has_body (stmt ∷ stmts) some = refl

  module _ (limits : Limits) (not_deep : is_deep limits e.level ≡ false)
      (not_full : is_full limits (length (variables_before e.is_fresh l.scope)) (length e.def.params) ≡ false) where
    -- it is entered
    pub enters : statements_of e.def.body ≢ [] → opened_function limits e k l
        ≡ core (Enter (statements_of e.def.body) e.restores) (CallEnd (exit_of e l) ∷ k) (entered_local e l)
    enters some = rw (not_deep, not_full) (has_body (statements_of e.def.body) some)

    -- or has no statements, and is passed over
    pub passes : statements_of e.def.body ≡ [] → opened_function limits e k l ≡ core (Back unit_value) k l
    passes none = rw (not_deep, not_full, none) refl
