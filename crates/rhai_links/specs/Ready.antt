-- What a chain is given that needs no step.
use Rattle.std.specs.Prelude.{◌≡◌, List, [], ◌∷◌, Option, Some, None}
use Rattle.rhai_tree.specs.declared.expr.Expr.{out-Expr}
use Rattle.rhai_tree.specs.Layers.{ExprLayer}
use Rattle.rhai_values.specs.declared.base.value.Dynamic.{Dynamic}
use Rattle.rhai_machine.specs.language.Chains.{ready}
use Rattle.rhai_machine.specs.language.Expressions.{literal_of}
use Rattle.rhai_machine.specs.language.Links.{Link}
use Rattle.rhai_links.specs.declared.arguments.Ready.{Ready}
use Rattle.rhai_links.specs.declared.arguments.Ready.TheVariants as code

module _ {H : Type 0} where
  -- what a link alone asks for that needs no step
  abbrev pub alone : (behind : Option ExprLayer) → Option (List (Dynamic H)) → Option (List (Dynamic H))
  alone None args = args
  alone (Some rest) args = None

  -- the arguments with which a chain goes to its root at once
  abbrev pub at_once : Option Link → Option (List (Dynamic H))
  at_once (Some link) = alone link.behind (ready link.form)
  at_once None = None

  -- the code has them as nothing, or as a literal
  abbrev pub IsReady : Option Ready → Option (List (Dynamic H)) → Type 0
  IsReady None args = args ≡ None
  IsReady (Some code.Nothing) args = args ≡ Some []
  IsReady (Some (code.Literal expr)) args = (v : Dynamic H) × (literal_of (out-Expr expr.now) ≡ Some v) × (args ≡ Some (v ∷ []))
