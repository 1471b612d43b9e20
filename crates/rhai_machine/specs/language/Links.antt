-- The links of a chain as they stand in the tree: a chain is an index or a dot over its root, and behind its operator stands a link, or
-- a chain that goes on from one.
use Rattle.std.specs.Prelude.{Bool, true, false, ℕ, List, [], ◌∷◌, Option, Some, None, nat_eq, bit_and, if◌then◌else◌}
use Rattle.rhai_machine.specs.Types.{ASTFlags, Expr, out-Expr, Position}
use Rattle.rhai_tree.specs.declared.expr.Expr.TheOpen as layer
use Rattle.rhai_tree.specs.Layers.{ExprLayer}
use Rattle.rhai_tree.specs.Positions.{position_of, start_of}
use Rattle.rhai_tree.specs.Forms.{is_unqualified}

-- what a link is: an index, a property, or a method with its arguments
pub data LinkForm : Type 0 where
  AtIndex : (index : Expr) → LinkForm
  AtProperty : (name : List ℕ) → (at : Position) → LinkForm
  AtMethod : (name : List ℕ) → (args : List Expr) → (at : Position) → LinkForm

-- A link: what it is, where its operator stands and what stands behind that, whether it stops at `()`, and the chain that goes on from
-- it, if one does.
pub record Link : Type 0 where
  pub form : LinkForm
  pub at : Position
  pub rest_at : Position
  pub stops_at_unit : Bool
  pub behind : Option ExprLayer

-- whether an operator of a chain is a null conditional, which stops at `()`
abbrev pub stops : ASTFlags → Bool
stops options = nat_eq (bit_and options.0 1) 1

-- whether an operator of a chain ends it: what stands behind it is in brackets of its own
abbrev pub breaks : ASTFlags → Bool
breaks options = nat_eq (bit_and options.0 2) 2

-- the link behind a dot: a property, or a method without a path; anything else is none
abbrev pub dot_form : ExprLayer → Option LinkForm
dot_form (layer.Property name pos) = Some (AtProperty name pos)
dot_form (layer.MethodCall call pos) = if is_unqualified call.namespace.path then Some (AtMethod call.name call.args pos) else None
dot_form _ = None

-- the first part of a chain, which its operator works on; anything else has none
abbrev pub first_in : ExprLayer → Option Expr
first_in (layer.Index lhs rhs options pos) = Some lhs
first_in (layer.Dot lhs rhs options pos) = Some lhs
first_in _ = None

-- a link of this form, with its positions, its options, and the chain that goes on from it
abbrev pub link_with : (form : LinkForm) → (at rest_at : Position) → (options : ASTFlags) → (behind : Option ExprLayer) → Link
link_with form at rest_at options behind =
    record { form = form; at = at; rest_at = rest_at; stops_at_unit = stops options; behind = behind }

-- the link of an index: by the first part of the chain behind it, or by all that stands there
abbrev pub index_link : (broken : Bool) → Option Expr → Expr → ASTFlags → Position → Link
index_link false (Some first) rhs options at = link_with (AtIndex first) at (position_of rhs) options (Some (out-Expr rhs))
index_link _ _ rhs options at = link_with (AtIndex rhs) at (position_of rhs) options None

-- the link of a dot whose form is this one, if it has one
abbrev pub dot_link_with : Option LinkForm → (rest_at at : Position) → ASTFlags → (behind : Option ExprLayer) → Option Link
dot_link_with (Some form) rest_at at options behind = Some (link_with form at rest_at options behind)
dot_link_with None rest_at at options behind = None

-- the link of a dot: the first part of the chain behind it, or what stands there alone; a chain in brackets is none
abbrev pub dot_link : (broken : Bool) → Option Expr → Expr → ASTFlags → Position → Option Link
dot_link false (Some first) rhs options at = dot_link_with (dot_form (out-Expr first)) (position_of rhs) at options (Some (out-Expr rhs))
dot_link true (Some first) rhs options at = None
dot_link _ None rhs options at = dot_link_with (dot_form (out-Expr rhs)) (position_of rhs) at options None

-- the link behind the operator of a chain; anything else has none
abbrev pub link_of : ExprLayer → Option Link
link_of (layer.Index lhs rhs options pos) = Some (index_link (breaks options) (first_in (out-Expr rhs)) rhs options pos)
link_of (layer.Dot lhs rhs options pos) = dot_link (breaks options) (first_in (out-Expr rhs)) rhs options pos
link_of _ = None

-- the expressions whose values a link asks for
abbrev pub asked_by : LinkForm → List Expr
asked_by (AtIndex index) = index ∷ []
asked_by (AtProperty name at) = []
asked_by (AtMethod name args at) = args

-- the position of a link: where an index starts, and where a property or a method stands
abbrev pub link_position : LinkForm → Position
link_position (AtIndex index) = start_of index
link_position (AtProperty name at) = at
link_position (AtMethod name args at) = at

-- where the first of some arguments stands
abbrev pub first_position : List Expr → Option Position
first_position [] = None
first_position (arg ∷ args) = Some (position_of arg)
