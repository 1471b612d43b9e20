-- An assignment to an item that can be done where it stands.
use Rattle.std.specs.Prelude.{ℕ, ℤ, Bool, true, false, length, Option, Some, None}
use Rattle.rhai_tree.specs.declared.expr.Expr.{Expr, out-Expr}
use Rattle.rhai_tree.specs.declared.expr.Expr.TheOpen as layer
use Rattle.rhai_tree.specs.Layers.{ExprLayer}
use Rattle.rhai_values.specs.declared.base.value.Dynamic.{Dynamic}
use Rattle.rhai_values.specs.declared.base.value.FnPtrKind.TheOpen as union
use Rattle.rhai_values.specs.Layers.{UnionLayer}
use Rattle.rhai_spots.specs.Indexing.{index_in}
use Rattle.rhai_fast_assign.specs.InPlace.{writable_in}

-- an index that is a literal integer or a variable
abbrev pub index_is_simple : ExprLayer → Bool
index_is_simple (layer.IntegerConstant n pos) = true
index_is_simple (layer.Variable offset name namespace pos) = true
index_is_simple _ = false

-- a root and an index, None where the condition is false
abbrev pub parts_if : Bool → (root index : Expr) → Option (Expr × Expr)
parts_if true root index = Some (root, index)
parts_if false root index = None

-- the root and the index of an item whose index is a literal integer or a variable
abbrev pub parts_in : ExprLayer → Option (Expr × Expr)
parts_in (layer.Index root index options pos) = parts_if (index_is_simple (out-Expr index)) root index
parts_in _ = None

-- how much is charged: value, root and item; an index that is a variable is charged too, and before it what is behind the bracket
abbrev pub charges_of : ExprLayer → ℕ
charges_of (layer.IntegerConstant n pos) = 3
charges_of _ = 5

module _ {H : Type 0} where
  -- where an index leads in an array
  abbrev pub place_in_array : UnionLayer H → Option ℤ → Option ℕ
  place_in_array (union.Array items) (Some index) = index_in (length items) index
  place_in_array _ _ = None

  -- the integer of a value that is there and may be assigned to
  abbrev pub writable_at : Option (Dynamic H) → Option ℤ
  writable_at (Some v) = writable_in v
  writable_at None = None
