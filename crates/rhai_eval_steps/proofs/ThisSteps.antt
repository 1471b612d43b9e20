-- Steps of an assignment to `this`.
use Rattle.std.proofs.Common.{◌≡◌, Bool, true, false, List, ◌∷◌, Option, Some, None, is_some, refl, ap, ◌∙◌}
use Rattle.rhai_tree.specs.declared.expr.Expr.{Expr, out-Expr}
use Rattle.rhai_tree.specs.declared.expr.Expr.TheOpen as layer
use Rattle.rhai_tree.specs.declared.expr.OpAssignment.{OpAssignment}
use Rattle.rhai_tree.specs.declared.position.Position.{Position}
use Rattle.rhai_tree.specs.Layers.{ExprLayer}
use Rattle.rhai_tree.specs.Positions.{position_of}
use Rattle.rhai_values.specs.declared.base.value.Dynamic.{Dynamic}
use Rattle.rhai_errors.specs.declared.error.EvalAltResult.TheVariants as error
use Rattle.rhai_machine.specs.machine.Machine.{Go}
use Rattle.rhai_machine.specs.machine.Memory.{here, Leads}
use Rattle.rhai_machine.specs.language.Setting.{Rules, cut}
use Rattle.rhai_machine.specs.language.State.{State}
use Rattle.rhai_machine.specs.language.Names.{bound_this}
use Rattle.rhai_machine.specs.language.Assignment.{assignment_move, to_this}
use Rattle.rhai_machine.specs.language.Frames.{Frame, core, AssignThisValue, Eval, Fail, OpenStmt}
use Rattle.rhai_machine.specs.language.Runs.{at}
use Rattle.rhai_machine.specs.language.Language.{machine}
use Rattle.rhai_steps.proofs.Pieces.{step_by}

module _ {S H : Type 0} (rules : Rules S H) (op : OpAssignment) (lhs rhs : Expr) (pos : Position) (restoring : Bool)
    (is : out-Expr lhs ≡ layer.ThisPtr pos) (k : List (Frame H)) (s : State S H) where
  unbound : (o : Option (Dynamic H)) → is_some o ≡ false →
      to_this (bound_this pos o) op pos rhs k s.local ≡ core (Fail (error.ErrorUnboundThis pos)) k s.local
  unbound None none = refl
  unbound (Some v) none = cc

  bound : (o : Option (Dynamic H)) → is_some o ≡ true →
      to_this (bound_this pos o) op pos rhs k s.local ≡ core (Eval rhs) (AssignThisValue op pos (position_of rhs) ∷ k) s.local
  bound None none = cc
  bound (Some v) none = refl

  -- `this` has to be bound
  pub this_unbound : is_some s.local.this ≡ false →
      Leads (machine rules) (cut rules) (at (OpenStmt (layer.Assignment op lhs rhs) restoring) k s)
      (at (Fail (error.ErrorUnboundThis pos)) k s)
  this_unbound none = step_by rules _ _ (Go (core (Fail (error.ErrorUnboundThis pos)) k s.local))
      (ap (λ (form : ExprLayer). assignment_move form op rhs k s.local) is ∙ ap Go (unbound s.local.this none)) here

  -- and then the value is evaluated
  pub this_begins : is_some s.local.this ≡ true →
      Leads (machine rules) (cut rules) (at (OpenStmt (layer.Assignment op lhs rhs) restoring) k s)
      (at (Eval rhs) (AssignThisValue op pos (position_of rhs) ∷ k) s)
  this_begins none = step_by rules _ _ (Go (core (Eval rhs) (AssignThisValue op pos (position_of rhs) ∷ k) s.local))
      (ap (λ (form : ExprLayer). assignment_move form op rhs k s.local) is ∙ ap Go (bound s.local.this none)) here
