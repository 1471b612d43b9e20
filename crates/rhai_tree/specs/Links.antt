-- The links of a chain, and how many of them a list counts.
use Rattle.std.specs.Prelude.{ℕ, ◌+◌, ◌-◌, ◌^◌, Bool, nat_le, Option, Some, None}
use Rattle.rhai_tree.specs.Types.{Expr}
use Rattle.rhai_tree.specs.declared.expr.Expr.TheOpen as layer
use Rattle.rhai_tree.specs.declared.expr.Expr.TheFolds.{fold-Expr}
use Rattle.rhai_tree.specs.Layers.{ExprLayer}

-- the links of a chain, from those behind its operator; what is no chain has none
abbrev pub links_step : layer.Expr-F ℕ (Unit {0}) (Unit {0}) (Unit {0}) (Unit {0}) (Unit {0}) → ℕ
links_step (layer.Index lhs rhs options pos) = 1 + rhs
links_step (layer.Dot lhs rhs options pos) = 1 + rhs
links_step _ = 0

-- the links of a chain, which stand behind one another on the right
abbrev pub links_in : Expr → ℕ
links_in = fold-Expr ℕ (Unit {0}) (Unit {0}) (Unit {0}) (Unit {0}) (Unit {0}) links_step (λ stmt. tt) (λ conditional. tt) (λ call. tt)
    (λ entry. tt) (λ block. tt)

-- the links of a chain, from one level of the tree; what is no chain has none
abbrev pub links : ExprLayer → ℕ
links (layer.Index lhs rhs options pos) = 1 + links_in rhs
links (layer.Dot lhs rhs options pos) = 1 + links_in rhs
links _ = 0

-- the links of the chain behind a link, and that link itself; none where the chain ends
abbrev pub left_by : (behind : Option ExprLayer) → ℕ
left_by None = 0
left_by (Some rest) = 1 + links rest

-- as many items as a list may have
abbrev pub most_links : ℕ
most_links = 2 ^ 64 - 1

-- a list counts so many links
abbrev pub is_counted : (links : ℕ) → Bool
is_counted links = nat_le links most_links
