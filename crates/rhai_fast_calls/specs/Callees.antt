-- A call that means a function of the libraries whatever its arguments come to.
use Rattle.std.specs.Prelude.{◌≡◌, ℕ, Bool, true, false, List, [], ◌∷◌, Some, None, length}
use Rattle.rhai_machine.specs.Types.{Expr, out-Expr, Module, ScriptFuncDef}
use Rattle.rhai_tree.specs.declared.expr.FnCallExpr.{FnCallExpr}
use Rattle.rhai_tree.specs.declared.expr.Expr.TheOpen as layer
use Rattle.rhai_tree.specs.Forms.{is_unqualified}
use Rattle.rhai_tree.specs.Layers.{ExprLayer}
use Rattle.rhai_functions.specs.Words.{has_own_meaning}
use Rattle.rhai_machine.specs.language.Functions.{in_libraries, key_by}

-- an expression that is passed by its value whatever it is: no variable, and not `this`
abbrev pub is_by_value : ExprLayer → Bool
is_by_value (layer.Variable offset name namespace pos) = false
is_by_value (layer.ThisPtr pos) = false
is_by_value _ = true

-- the first argument, if there is one, is passed by its value whatever it is
abbrev pub starts_by_value : List Expr → Bool
starts_by_value [] = true
starts_by_value (arg ∷ args) = is_by_value (out-Expr arg)

-- the call is one by its name alone, of a function of the libraries that has no environment
pub record IsPlain {H : Type 0} (call : FnCallExpr) (lib : List (Module H)) (def : ScriptFuncDef) : Type 0 where
  pub token : call.op_token ≡ None
  pub path : is_unqualified call.namespace.path ≡ true
  pub captures : call.capture_parent_scope ≡ false
  pub by_value : starts_by_value call.args ≡ true
  pub meaning : has_own_meaning call.name ≡ false
  pub takes : length def.params ≡ length call.args
  pub found : in_libraries (key_by call.name (length call.args) None) lib ≡ Some (record { def = def; environ = None })
