-- How the parts of a call are told.
use Rattle.std.specs.Prelude.{◌≡◌, ◌+◌, ℕ, Bool, List, Option, Result, Ok, Err, length}
use Rattle.rhai_tree.specs.declared.expr.Expr.{Expr}
use Rattle.rhai_tree.specs.declared.expr.FnCallExpr.{FnCallExpr}
use Rattle.rhai_tree.specs.declared.expr.Namespace.{Namespace}
use Rattle.rhai_tree.specs.declared.position.Position.{Position}
use Rattle.rhai_tree.specs.declared.token.Token.{Token}
use Rattle.rhai_values.specs.declared.base.value.Dynamic.{Dynamic}
use Rattle.rhai_values.specs.declared.base.value.FnPtr.{FnPtr, out-FnPtr}
use Rattle.rhai_errors.specs.declared.error.EvalAltResult.{EvalAltResult}
use Rattle.rhai_machine.specs.language.Setting.{Rules}
use Rattle.rhai_machine.specs.language.State.{Local, State}
use Rattle.rhai_machine.specs.language.Frames.{Operation, Purpose, Frame, Core, core, Fail}
use Rattle.rhai_machine.specs.language.Arguments.{arguments_core, arguments_there, flattens, function_core, keyword_of, linked_to}
use Rattle.rhai_machine.specs.language.Arguments.{pointer_core}
use Rattle.rhai_machine.specs.language.Runs.{Goes}

module _ {S H : Type 0} (rules : Rules S H) where
  -- a pointer that is called
  abbrev pub pointer_called : FnPtr H → Position → List Expr → (captures : Bool) → List (Frame H) → Local H → Core H
  pointer_called pointer at args captures k l =
      pointer_core rules.setting (linked_to pointer (length (out-FnPtr H pointer).curry + length args) l.around.lib) pointer at args
      captures
      k l

  -- all arguments are there for what they are for, or an error comes down
  abbrev pub collected : Purpose H → Result (List (Dynamic H)) (EvalAltResult H) → List (Frame H) → Local H → Core H
  collected purpose (Ok values) k l = arguments_there rules.setting purpose values k l
  collected purpose (Err e) k l = core (Fail e) k l

  -- from the arguments of a call behind those that are there to where all of them are there, whatever they are for
  unfoldable pub Collects : (flattened : Bool) → (made : List (Dynamic H)) → List Expr → State S H →
      Result (List (Dynamic H)) (EvalAltResult H) → State S H → Type 0
  Collects flattened made args old result new = (purpose : Purpose H) → flattens purpose ≡ flattened →
      Goes rules (arguments_core rules.setting purpose made args) old (collected purpose result) new

module _ {H : Type 0} where
  -- what is no operator on its operands is a keyword, or a call by name
  abbrev pub called : Operation → List Expr → (captures : Bool) → List (Frame H) → Local H → Core H
  called operation args captures k l =
      function_core (keyword_of operation.token operation.name (length args)) operation args captures k l

-- a call, told by its parts
abbrev pub in_parts : Namespace → (name : List ℕ) → List Expr → Option Token → (captures : Bool) → FnCallExpr
in_parts path name args token captures =
    record { namespace = path; name = name; args = args; op_token = token; capture_parent_scope = captures }
