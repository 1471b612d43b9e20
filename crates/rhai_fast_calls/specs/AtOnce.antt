-- A call of a native that can be made at once.
use Rattle.std.specs.Prelude.{◌≡◌, true, false, [], ◌∷◌, None}
use Rattle.rhai_tree.specs.declared.expr.Expr.{Expr}
use Rattle.rhai_tree.specs.declared.expr.FnCallExpr.{FnCallExpr}
use Rattle.rhai_tree.specs.Forms.{is_unqualified}
use Rattle.rhai_functions.specs.Words.{has_own_meaning}

-- the call is one by its name alone, with this argument and no other, and its name means nothing besides functions
pub record IsLone (call : FnCallExpr) (arg : Expr) : Type 0 where
  pub token : call.op_token ≡ None
  pub path : is_unqualified call.namespace.path ≡ true
  pub captures : call.capture_parent_scope ≡ false
  pub meaning : has_own_meaning call.name ≡ false
  pub alone : call.args ≡ arg ∷ []
