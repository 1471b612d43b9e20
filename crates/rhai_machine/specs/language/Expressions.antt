-- The rules of expressions.
use Rattle.std.specs.Prelude.{Bool, true, false, List, [], ◌∷◌, map, Option, Some, None, Result}
use Rattle.rhai_machine.specs.Types.{Dynamic, EvalAltResult, Expr, Position, Token, Union}
use Rattle.rhai_tree.specs.declared.expr.FnCallExpr.{FnCallExpr}
use Rattle.rhai_tree.specs.declared.expr.Expr.TheOpen as layer
use Rattle.rhai_tree.specs.Layers.{ExprLayer}
use Rattle.rhai_tree.specs.Positions.{position_of, start_of}
use Rattle.rhai_tree.specs.Forms.{is_unqualified}
use Rattle.rhai_tree.specs.Keys.{key_of}
use Rattle.rhai_values.specs.declared.base.value.Union.TheVariants as value
use Rattle.rhai_values.specs.Copy.{plain}
use Rattle.rhai_values.specs.Literals.{value_of_literal}
use Rattle.rhai_machine.specs.machine.Machine.{Move, Halt, Go, Charge}
use Rattle.rhai_machine.specs.language.Setting.{Setting, globals_of}
use Rattle.rhai_machine.specs.language.State.{Local}
use Rattle.rhai_machine.specs.language.Values.{copied, unit_value, bool_value}
use Rattle.rhai_machine.specs.language.Variables.{variable_named}
use Rattle.rhai_machine.specs.language.Names.{bound_this, read}
use Rattle.rhai_machine.specs.language.Frames.{Frame, Core, core, chain_on, on_value, ended, Eval, Argument, Enter, OpenChain, Back}
use Rattle.rhai_machine.specs.language.Frames.{UnaryOperand, LeftOperand, AndPart, OrPart, CoalescePart}
use Rattle.rhai_machine.specs.language.Arguments.{function_move}
use Rattle.rhai_machine.specs.language.Data.{entries_core, items_core, parts_core}

module _ {H : Type 0} where
  -- the value that a literal is, read-write; anything else is no literal
  abbrev pub literal_of : ExprLayer → Option (Dynamic H)
  literal_of (layer.DynamicConstant literal pos) = Some (value_of_literal literal)
  literal_of (layer.BoolConstant b pos) = Some (bool_value b)
  literal_of (layer.IntegerConstant n pos) = Some (plain (value.Int n))
  literal_of (layer.CharConstant letter pos) = Some (plain (value.Char letter))
  literal_of (layer.StringConstant text pos) = Some (plain (value.Str text))
  literal_of (layer.Unit pos) = Some unit_value
  literal_of _ = None

  -- an argument: a literal is charged at its start, and anything else is evaluated as an expression
  abbrev pub argument_move : Option (Dynamic H) → Expr → List (Frame H) → Local H → Move H (Core H)
  argument_move (Some v) e k l = Charge (start_of e) (core (Back v) k l)
  argument_move None e k l = Go (core (Eval e) k l)

  -- the parts of an `&&` from left to right, up to the first that is false
  abbrev pub and_core : List Expr → List (Frame H) → Local H → Core H
  and_core [] k l = core (Back (bool_value true)) k l
  and_core (part ∷ parts) k l = core (Eval part) (AndPart (position_of part) parts ∷ k) l

  -- after a part of an `&&`: where it is true the other parts, and else `false`
  abbrev pub and_next : Bool → List Expr → List (Frame H) → Local H → Core H
  and_next true parts k l = and_core parts k l
  and_next false parts k l = core (Back (bool_value false)) k l

  -- the parts of an `||` from left to right, up to the first that is true
  abbrev pub or_core : List Expr → List (Frame H) → Local H → Core H
  or_core [] k l = core (Back (bool_value false)) k l
  or_core (part ∷ parts) k l = core (Eval part) (OrPart (position_of part) parts ∷ k) l

  -- after a part of an `||`: where it is true `true`, and else the other parts
  abbrev pub or_next : Bool → List Expr → List (Frame H) → Local H → Core H
  or_next true parts k l = core (Back (bool_value true)) k l
  or_next false parts k l = or_core parts k l

  -- the parts of a `??` from left to right, up to the first that is not `()`; where all are, the last value
  abbrev pub coalesce_core : (last : Dynamic H) → List Expr → List (Frame H) → Local H → Core H
  coalesce_core last [] k l = core (Back last) k l
  coalesce_core last (part ∷ parts) k l = core (Eval part) (CoalescePart (position_of part) parts ∷ k) l

  -- after a part of a `??`, by the kind that is seen: after `()` the other parts, and else its value as it is, a handle too
  abbrev pub coalesce_seen : Union H → Dynamic H → List Expr → List (Frame H) → Local H → Core H
  coalesce_seen value.Unit v parts k l = coalesce_core v parts k l
  coalesce_seen _ v parts k l = core (Back v) k l

  -- after a part of a `??`, which is seen through a handle: the other parts or its value, and an error comes down
  abbrev pub coalesce_next : (seen : Result (Dynamic H) (EvalAltResult H)) → Dynamic H → List Expr → List (Frame H) → Local H → Core H
  coalesce_next r v parts k l = on_value r (λ seen. coalesce_seen seen.value v parts k l) k l

  module _ (s : Setting H) where
    -- A call. Under fast operators one that was written as an operator on one operand or two evaluates them from left to right; any other
    -- is one by name, or behind a path.
    abbrev pub call_move : (fast_operators : Bool) → Option Token → FnCallExpr → List Expr → Position → List (Frame H) → Local H →
        Move H (Core H)
    call_move true (Some token) call (operand ∷ []) pos k l =
        Go (core (Argument operand) (UnaryOperand (record { name = call.name; token = Some token; at = pos }) (position_of operand) ∷ k) l)
    call_move true (Some token) call (left ∷ right ∷ []) pos k l =
        Go (core (Argument left) (LeftOperand (record { name = call.name; token = Some token; at = pos }) (position_of left) right ∷ k) l)
    call_move _ _ call args pos k l = function_move s (is_unqualified call.namespace.path) call pos k l

    -- an expression by its form, after its charge; a property and a method are none by themselves and have no step
    abbrev pub expr_move : (fast_operators : Bool) → ExprLayer → List (Frame H) → Local H → Move H (Core H)
    expr_move fast (layer.DynamicConstant literal pos) k l = Go (core (Back (value_of_literal literal)) k l)
    expr_move fast (layer.BoolConstant b pos) k l = Go (core (Back (bool_value b)) k l)
    expr_move fast (layer.IntegerConstant n pos) k l = Go (core (Back (plain (value.Int n))) k l)
    expr_move fast (layer.CharConstant letter pos) k l = Go (core (Back (plain (value.Char letter))) k l)
    expr_move fast (layer.StringConstant text pos) k l = Go (core (Back (plain (value.Str text))) k l)
    expr_move fast (layer.Unit pos) k l = Go (core (Back unit_value) k l)
    expr_move fast (layer.InterpolatedString parts pos) k l = Go (parts_core [] parts k l)
    expr_move fast (layer.Array items pos) k l = Go (items_core [] items k l)
    expr_move fast (layer.Map entries template pos) k l = Go (entries_core (map key_of entries) [] entries k l)
    expr_move fast (layer.Variable offset name namespace pos) k l =
        Go (core (ended (read (globals_of s.offer) l.around l.scope (variable_named name namespace pos))) k l)
    expr_move fast (layer.ThisPtr pos) k l = Go (core (ended (copied (bound_this pos l.this))) k l)
    expr_move fast (layer.Expr::FnCall call pos) k l = call_move fast call.op_token call call.args pos k l
    expr_move fast (layer.Stmt block) k l = Go (core (Enter block.statements true) k l)
    expr_move fast (layer.Index lhs rhs options pos) k l = Go (core (OpenChain (chain_on lhs (layer.Index lhs rhs options pos) None)) k l)
    expr_move fast (layer.Dot lhs rhs options pos) k l = Go (core (OpenChain (chain_on lhs (layer.Dot lhs rhs options pos) None)) k l)
    expr_move fast (layer.And parts pos) k l = Go (and_core parts k l)
    expr_move fast (layer.Or parts pos) k l = Go (or_core parts k l)
    expr_move fast (layer.Coalesce parts pos) k l = Go (coalesce_core unit_value parts k l)
    expr_move fast _ k l = Halt
