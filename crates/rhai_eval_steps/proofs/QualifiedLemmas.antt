-- The arguments of a call behind a path are flattened.
use Rattle.std.proofs.Common.{◌≡◌, true, Option, Some, None, refl}
use Rattle.rhai_tree.specs.declared.expr.Expr.{Expr, out-Expr}
use Rattle.rhai_tree.specs.declared.expr.Expr.TheOpen as layer
use Rattle.rhai_tree.specs.Layers.{ExprLayer}
use Rattle.rhai_machine.specs.language.Arguments.{flattens}
use Rattle.rhai_machine.specs.language.Frames.{Dispatch, Operation}
use Rattle.rhai_callees.specs.Behind.{purpose_of, purpose_on}

module _ (H : Type 0) (operation : Operation) (how : Dispatch) where
  flattened_on : (form : ExprLayer) → flattens (purpose_on {H = H} form operation how) ≡ true
  flattened_on (layer.Variable offset name namespace pos) = refl
  flattened_on (layer.ThisPtr pos) = refl
  flattened_on _ = refl

  pub flattened_behind : (last : Option Expr) → flattens (purpose_of {H = H} last operation how) ≡ true
  flattened_behind (Some arg) = flattened_on (out-Expr arg)
  flattened_behind None = refl
