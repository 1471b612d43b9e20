-- Where an expression's offset leads in a scope, and the index of its path among the imports.
use Rattle.std.specs.Prelude.{ℕ, ◌-◌, Bool, if◌then◌else◌, Option, Some, None}
use Rattle.std.specs.Int.NonZero.{non_zero_usize_get}
use Rattle.std.specs.declared.num.NonZeroUsize.{NonZeroUsize}
use Rattle.rhai_tree.specs.declared.expr.Expr.TheOpen as layer
use Rattle.rhai_tree.specs.Forms.{is_unqualified}
use Rattle.rhai_tree.specs.Layers.{ExprLayer}
use Rattle.rhai_state.specs.Scope.{in_use}

-- the offset that an expression finds its variable by, if it is one with an offset and variables are not searched for
abbrev pub offset_in : Bool → ExprLayer → Option NonZeroUsize
offset_in searches (layer.Variable offset name namespace pos) = in_use searches offset
offset_in searches _ = None

-- the index that the root of a variable's path is found by, if it has a path with an index and variables are not searched for
abbrev pub index_in : Bool → ExprLayer → Option NonZeroUsize
index_in searches (layer.Variable offset name namespace pos) =
    if is_unqualified namespace.path then None else in_use searches namespace.index
index_in searches _ = None

-- the index at an offset from the end of so many entries, counted from the start
abbrev pub index_at_offset : Option NonZeroUsize → ℕ → Option ℕ
index_at_offset (Some offset) count = Some (count - non_zero_usize_get offset)
index_at_offset None count = None
