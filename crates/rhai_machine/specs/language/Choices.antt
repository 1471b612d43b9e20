-- The rules of `switch`.
use Rattle.std.specs.Prelude.{Bool, true, false, List, [], ◌∷◌, Option, Some, None}
use Rattle.rhai_machine.specs.Types.{ConditionalExpr, Expr, out-Expr}
use Rattle.rhai_tree.specs.declared.expr.Expr.TheOpen as layer
use Rattle.rhai_tree.specs.Layers.{ExprLayer}
use Rattle.rhai_machine.specs.language.State.{Local}
use Rattle.rhai_machine.specs.language.Values.{unit_value}
use Rattle.rhai_machine.specs.language.Frames.{Frame, Core, core, Eval, Choose, Back, SwitchCondition}

-- the truth value that a condition is written as, if it is one
abbrev pub truth_literal : ExprLayer → Option Bool
truth_literal (layer.BoolConstant b pos) = Some b
truth_literal _ = None

module _ {H : Type 0} where
  -- a candidate whose condition was tested: where it holds its result is evaluated and comes up as it is, and else the next one is tried
  abbrev pub met_core : (holds : Bool) → ConditionalExpr → (rest : List ConditionalExpr) → (default : Option Expr) → List (Frame H) →
      Local H → Core H
  met_core true candidate rest default k l = core (Eval candidate.expr) k l
  met_core false candidate rest default k l = core (Choose rest default) k l

  -- a candidate: a condition that is written as a truth value is read without a charge, and any other is evaluated
  abbrev pub tested_core : Option Bool → ConditionalExpr → (rest : List ConditionalExpr) → (default : Option Expr) → List (Frame H) →
      Local H → Core H
  tested_core (Some holds) candidate rest default k l = met_core holds candidate rest default k l
  tested_core None candidate rest default k l = core (Eval candidate.condition) (SwitchCondition candidate rest default ∷ k) l

  -- the candidates one after the other, and after the last one the default, or `()`
  abbrev pub choose_core : List ConditionalExpr → (default : Option Expr) → List (Frame H) → Local H → Core H
  choose_core [] None k l = core (Back unit_value) k l
  choose_core [] (Some result) k l = core (Eval result) k l
  choose_core (candidate ∷ rest) default k l = tested_core (truth_literal (out-Expr candidate.condition)) candidate rest default k l
