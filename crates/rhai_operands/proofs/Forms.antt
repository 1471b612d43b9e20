-- Expressions that are read as they stand.
use Rattle.std.proofs.Common.{Result, subst, sym}
use Rattle.rhai_tree.specs.declared.expr.Expr.{Expr, out-Expr}
use Rattle.rhai_tree.specs.declared.expr.Expr.TheOpen as layer
use Rattle.rhai_tree.specs.Layers.{ExprLayer}
use Rattle.rhai_tree.specs.Position.{none}
use Rattle.rhai_values.specs.declared.base.value.Dynamic.{Dynamic}
use Rattle.rhai_errors.specs.declared.error.EvalAltResult.{EvalAltResult}
use Rattle.rhai_state.specs.declared.scope.Scope.{Scope}
use Rattle.rhai_lookups.specs.declared.run.RunState.{RunState}
use Rattle.rhai_state.specs.declared.session.Offered.{Offered}
use Rattle.rhai_machine.specs.machine.Point.{after}
use Rattle.rhai_machine.specs.machine.Memory.{next, out_before_step}
use Rattle.rhai_machine.specs.language.Setting.{Globals, Rules, globals_of}
use Rattle.rhai_machine.specs.language.State.{Answers, Held}
use Rattle.rhai_machine.specs.language.Frames.{OpenExpr}
use Rattle.rhai_machine.specs.language.Runs.{Runs, Goes}
use Rattle.rhai_steps.specs.Offers.{Offers, globals_in}
use Rattle.rhai_steps.specs.States.{local_of, state_of}
use Rattle.rhai_names.proofs.Offering.{globals_same}
use Rattle.rhai_steps.proofs.Pieces.{told}
use Rattle.rhai_operands.specs.Reading.{read_as}

module _ {S H : Type 0} (rules : Rules S H) where
  module _ (t : S) (global : RunState H) (scope : Scope H) (held : Held H) (e : Expr) (r : Result (Dynamic H) (EvalAltResult H))
    where
      form_runs : (form : ExprLayer) → Answers r (read_as (globals_of rules.setting.offer) (local_of global scope held) form) →
          Runs rules (OpenExpr form) (state_of t global scope held) r (state_of t global scope held)
      unfolding after Goes
      form_runs (layer.DynamicConstant literal pos) answers k = next (told rules r _ answers k _)
      form_runs (layer.BoolConstant b pos) answers k = next (told rules r _ answers k _)
      form_runs (layer.IntegerConstant n pos) answers k = next (told rules r _ answers k _)
      form_runs (layer.CharConstant letter pos) answers k = next (told rules r _ answers k _)
      form_runs (layer.StringConstant text pos) answers k = next (told rules r _ answers k _)
      form_runs (layer.Unit pos) answers k = next (told rules r _ answers k _)
      form_runs (layer.ThisPtr pos) answers k = next (told rules r _ answers k _)
      form_runs (layer.Variable offset name namespace pos) answers k = next (told rules r _ answers k _)
      form_runs _ answers k = out_before_step {at = none} (told rules r _ answers k _)

      -- an expression runs to what is read of it
      pub read_runs : (offered : Offered H) → Offers rules.setting.offer offered →
          Answers r (read_as (globals_in offered) (local_of global scope held) (out-Expr e)) →
          Runs rules (OpenExpr (out-Expr e)) (state_of t global scope held) r (state_of t global scope held)
      read_runs offered offers answers = form_runs (out-Expr e)
          (subst (λ (globals : Globals H). Answers r (read_as globals (local_of global scope held) (out-Expr e)))
          (sym (globals_same rules.setting.offer offered offers)) answers)
