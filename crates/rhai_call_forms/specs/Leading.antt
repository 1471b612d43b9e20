-- A variable that is the first argument of a call.
use Rattle.std.specs.Prelude.{ℕ, Bool, true, false, not, ◌&&◌, List, [], ◌∷◌, Option, Some, None, length, nat_eq}
use Rattle.std.specs.declared.num.NonZeroUsize.{NonZeroUsize}
use Rattle.rhai_tree.specs.declared.position.Position.{Position}
use Rattle.rhai_tree.specs.declared.expr.Expr.{Expr, out-Expr}
use Rattle.rhai_tree.specs.declared.expr.Expr.TheOpen as layer
use Rattle.rhai_tree.specs.declared.expr.Namespace.{Namespace}
use Rattle.rhai_tree.specs.Layers.{ExprLayer}
use Rattle.rhai_values.specs.declared.base.value.Dynamic.{Dynamic}
use Rattle.rhai_state.specs.declared.scope.ScopeEntry.{ScopeEntry}
use Rattle.rhai_machine.specs.language.Variables.{Variable, variable_named}
use Rattle.rhai_machine.specs.language.Arguments.{this_in}
use Rattle.rhai_call_forms.specs.declared.arguments.FirstVariable.{FirstVariable}

-- the arguments of a call, the first of which is told apart: where there is no first there are none
abbrev pub all_args : (first : Option Expr) → (rest : List Expr) → List Expr
all_args None rest = []
all_args (Some arg) rest = arg ∷ rest

-- a variable's offset and name, the path in front of it, where it stands, and the arguments behind it
pub record Leading : Type 0 where
  pub offset : Option NonZeroUsize
  pub name : List ℕ
  pub namespace : Namespace
  pub at : Position
  pub rest : List Expr

-- a variable that comes first, read off the code's record of it
abbrev pub leading_seen : FirstVariable → Leading
leading_seen first = record {
  offset = first.offset;
  name = first.name.now;
  namespace = first.namespace.now;
  at = first.pos;
  rest = first.rest.now;
}

-- the variable to be read: its name, its path and its position
abbrev pub variable_read : Leading → Variable
variable_read first = variable_named first.name first.namespace first.at

-- an argument that is a variable
abbrev pub leading : ExprLayer → (rest : List Expr) → Option Leading
leading (layer.Variable offset name namespace pos) rest =
    Some (record { offset = offset; name = name; namespace = namespace; at = pos; rest = rest })
leading _ rest = None

-- the first argument, where it is one
abbrev pub first_in : (args : List Expr) → Option Leading
first_in [] = None
first_in (arg ∷ args) = leading (out-Expr arg) args

-- each argument is taken by its value: behind those that a pointer has, or where a scope that is not empty is captured
abbrev pub takes_by_value : {H : Type 0} → (curried : List (Dynamic H)) → (captures : Bool) → List (ScopeEntry H) → Bool
takes_by_value [] captures entries = captures && not (nat_eq (length entries) 0)
takes_by_value (v ∷ vs) captures entries = true

-- the variable that is charged before the other arguments and read after them
abbrev pub lent_first : (takes_by_value : Bool) → (args : List Expr) → Option Leading
lent_first true args = None
lent_first false args = first_in args

-- `this` that is charged before the other arguments and lent
abbrev pub this_lent : {H : Type 0} → (takes_by_value : Bool) → (first : Option Expr) → Option (Dynamic H) → Option Position
this_lent true first this = None
this_lent false None this = None
this_lent false (Some arg) this = this_in (out-Expr arg) this
