-- What becomes of a scope whose variable was lent for an expression, once the borrow has ended.
use Rattle.std.specs.Prelude.{Bool}
use Rattle.rhai_tree.specs.declared.expr.Expr.TheOpen as layer
use Rattle.rhai_tree.specs.Layers.{ExprLayer}
use Rattle.rhai_values.specs.declared.base.value.Dynamic.{Dynamic}
use Rattle.rhai_state.specs.declared.scope.Scope.{Scope}
use Rattle.rhai_state.specs.Scope.{in_use}
use Rattle.rhai_names.specs.Lends.{with_value}

-- the variable that an expression is has another value
abbrev pub with_variable : {H : Type 0} → Scope H → Bool → ExprLayer → Dynamic H → Scope H
with_variable s searches (layer.Variable offset name namespace pos) = with_value s (in_use searches offset) name
with_variable s searches _ = λ value. s
