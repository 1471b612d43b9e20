-- How a `switch` leads on.
use Rattle.std.proofs.Common.{◌≡◌, Bool, List, [], ◌∷◌, Option, Some, None, Ok, Err, refl}
use Rattle.rhai_tree.specs.declared.expr.ConditionalExpr.{ConditionalExpr}
use Rattle.rhai_tree.specs.declared.expr.Expr.{Expr, out-Expr}
use Rattle.rhai_tree.specs.declared.position.Position.{Position}
use Rattle.rhai_values.specs.declared.base.value.Dynamic.{Dynamic}
use Rattle.rhai_errors.specs.declared.error.EvalAltResult.{EvalAltResult}
use Rattle.rhai_machine.specs.machine.Machine.{Go}
use Rattle.rhai_machine.specs.machine.Point.{after}
use Rattle.rhai_machine.specs.machine.Memory.{here, next, Leads}
use Rattle.rhai_machine.specs.language.Cases.{Cases, candidates, default_of}
use Rattle.rhai_machine.specs.language.Choices.{met_core, truth_literal}
use Rattle.rhai_machine.specs.language.Frames.{Back, Choose, core, Eval, Fail, Frame, SwitchCondition, SwitchValue}
use Rattle.rhai_machine.specs.language.Runs.{at, with_core, Goes}
use Rattle.rhai_machine.specs.language.Setting.{Rules, cut}
use Rattle.rhai_machine.specs.language.State.{State}
use Rattle.rhai_machine.specs.language.Values.{flat, unit_value}
use Rattle.rhai_machine.specs.language.Language.{machine}
use Rattle.rhai_steps.proofs.Pieces.{step_by}
use Rattle.rhai_operands.specs.Tests.{Tests}

module _ {S H : Type 0} (rules : Rules S H) (k : List (Frame H)) where
  -- its value leads to the results that it may have
  pub value_on : (choice : Cases) (value_at : Position) (v w : Dynamic H) (l : State S H) → Ok w ≡ flat l.local.around.cells v value_at →
      Leads (machine rules) (cut rules) (at (Back v) (SwitchValue value_at choice ∷ k) l)
      (at (Choose (candidates choice w) (default_of choice)) k l)
  unfolding after
  value_on choice value_at v w l is = next (rw (← is) here)

  module _ (candidate : ConditionalExpr) (rest : List ConditionalExpr) (default : Option Expr) where
    -- a condition that is written as a truth value
    pub written_on : (holds : Bool) (l : State S H) → truth_literal (out-Expr candidate.condition) ≡ Some holds →
        Leads (machine rules) (cut rules) (at (Choose (candidate ∷ rest) default) k l)
        (with_core (met_core holds candidate rest default k l.local) l)
    written_on holds l is = step_by rules _ _ (Go (met_core holds candidate rest default k l.local)) (rw is refl) here

    -- any other one that is told
    pub tested_on : (holds : Bool) (old new : State S H) → truth_literal (out-Expr candidate.condition) ≡ None →
        Tests rules candidate.condition old (Ok holds) new →
        Leads (machine rules) (cut rules) (at (Choose (candidate ∷ rest) default) k old)
        (with_core (met_core holds candidate rest default k new.local) new)
    unfolding Tests Goes
    tested_on holds old new is tests =
        step_by rules _ _ (Go (core (Eval candidate.condition) (SwitchCondition candidate rest default ∷ k) old.local)) (rw is refl)
        (tests (SwitchCondition candidate rest default) refl k)

    pub tested_not : (e : EvalAltResult H) (old new : State S H) → truth_literal (out-Expr candidate.condition) ≡ None →
        Tests rules candidate.condition old (Err e) new →
        Leads (machine rules) (cut rules) (at (Choose (candidate ∷ rest) default) k old) (at (Fail e) k new)
    unfolding Tests Goes
    tested_not e old new is tests =
        step_by rules _ _ (Go (core (Eval candidate.condition) (SwitchCondition candidate rest default ∷ k) old.local)) (rw is refl)
        (tests (SwitchCondition candidate rest default) refl k)

  -- no result is left to be tried
  pub default_on : (default : Option Expr) (result : Expr) (l : State S H) → default ≡ Some result →
      Leads (machine rules) (cut rules) (at (Choose [] default) k l) (at (Eval result) k l)
  default_on default result l is = step_by rules _ _ (Go (core (Eval result) k l.local)) (rw is refl) here

  pub default_not : (default : Option Expr) (l : State S H) → default ≡ None →
      Leads (machine rules) (cut rules) (at (Choose [] default) k l) (at (Back unit_value) k l)
  default_not default l is = step_by rules _ _ (Go (core (Back unit_value) k l.local)) (rw is refl) here
