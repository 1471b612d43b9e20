-- Operands that are read where they stand.
use Rattle.std.specs.Prelude.{ℤ, Bool, List, [], ◌∷◌, Option, Some, None, Ok, if◌then◌else◌}
use Rattle.rhai_tree.specs.declared.expr.Expr.{Expr, out-Expr}
use Rattle.rhai_tree.specs.declared.expr.Expr.TheOpen as layer
use Rattle.rhai_tree.specs.Layers.{ExprLayer}
use Rattle.rhai_tree.specs.declared.token.Token.{Token}
use Rattle.rhai_values.specs.declared.base.value.Dynamic.{Dynamic}
use Rattle.rhai_values.specs.declared.base.value.Union.TheVariants as value
use Rattle.rhai_values.specs.Copy.{plain}
use Rattle.rhai_state.specs.declared.scope.ScopeEntry.{ScopeEntry}
use Rattle.rhai_state.specs.Scope.{value_in}
use Rattle.rhai_operators.specs.Answers.{Answer, binary_of}
use Rattle.rhai_operators.specs.Direct.{integer_given, integer_in, truth_given, truth_in}
use Rattle.rhai_operators.specs.Operators.{of_integers, op_assign_at}
use Rattle.rhai_machine.specs.language.Names.{entry_named}
use Rattle.rhai_machine.specs.language.Values.{is_handle}
use Rattle.rhai_machine.specs.language.Expressions.{literal_of}
use Rattle.rhai_operands.specs.declared.operands.Operand.{Operand}
use Rattle.rhai_operands.specs.declared.operands.Operand.TheVariants as operand

-- the operands of a call that has two
abbrev pub operand_pair : List Expr → Option (Expr × Expr)
operand_pair (left ∷ right ∷ []) = Some (left, right)
operand_pair _ = None

module _ {H : Type 0} where
  -- the value of an operand in the code
  abbrev pub value_of : Operand H → Dynamic H
  value_of (operand.Literal v) = v
  value_of (operand.Variable v) = v.now

  -- a value, unless it is a handle
  abbrev pub unless_handle : Option (Dynamic H) → Option (Dynamic H)
  unless_handle (Some v) = if is_handle v.value then None else Some v
  unless_handle None = None

  -- the value of a literal that takes no memory, or that of a variable without a path, unless it is a handle
  abbrev pub standing : ExprLayer → List (ScopeEntry H) → Option (Dynamic H)
  standing (layer.DynamicConstant literal pos) entries = None
  standing (layer.StringConstant text pos) entries = None
  standing (layer.Variable offset name namespace pos) entries = unless_handle (value_in entries (entry_named namespace.path name entries))
  standing form entries = literal_of form

  -- the integer of a value that stands
  abbrev pub integer_of : Option (Dynamic H) → Option ℤ
  integer_of (Some v) = integer_in v.value
  integer_of None = None

  -- the truth value that an operator answered, None where it answered something else
  abbrev pub truth_answered : Answer H → Option Bool
  truth_answered (Some (Ok v)) = truth_in v.value
  truth_answered _ = None

  -- what an operator gives for two operands that stand, None too where there is no built-in for them
  abbrev pub operated : Token → Option (Dynamic H) → Option (Dynamic H) → Answer H
  operated token (Some x) (Some y) = binary_of token x y
  operated token _ _ = None

  -- the truth value that an operator gives for two operands that stand
  abbrev pub compared : Token → Option (Dynamic H) → Option (Dynamic H) → Option Bool
  compared token left right = truth_answered (operated token left right)

  -- the truth value that an operator gives for a call's two operands, where both stand
  abbrev pub compared_by : Option Token → Option (Expr × Expr) → List (ScopeEntry H) → Option Bool
  compared_by (Some token) (Some pair) entries =
      compared token (standing (out-Expr pair.0) entries) (standing (out-Expr pair.1) entries)
  compared_by _ _ entries = None

  -- the truth value of a condition that compares two operands which stand, None for any other expression
  abbrev pub condition_truth : ExprLayer → List (ScopeEntry H) → Option Bool
  condition_truth (layer.Expr::FnCall call pos) entries = compared_by call.op_token (operand_pair call.args) entries
  condition_truth form entries = None

-- the truth value that an operator gives for two integers
abbrev pub compared_known : (H : Type 0) → Token → Option ℤ → Option ℤ → Option Bool
compared_known H token (Some x) (Some y) = truth_given {H = H} (of_integers token x y)
compared_known H token _ _ = None

module _ {H : Type 0} where
  -- an integer as a value
  abbrev pub integer_valued : Option ℤ → Option (Dynamic H)
  integer_valued (Some z) = Some (plain (value.Int z))
  integer_valued None = None

  -- what an operator that may stand before an `=` gives for two integers, where that is an integer
  abbrev pub assigned_known : Token → Option ℤ → Option ℤ → Option (Dynamic H)
  assigned_known token (Some x) (Some y) = integer_valued (integer_given {H = H} (op_assign_at token (value.Int x) (value.Int y)))
  assigned_known token _ _ = None
