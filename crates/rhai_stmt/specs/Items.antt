-- The items that a cursor over an array has left.
use Rattle.std.specs.Prelude.{List, drop}
use Rattle.rhai_values.specs.declared.base.value.Dynamic.{Dynamic}
use Rattle.rhai_stmt.specs.declared.cursors.ItemsLeft.{ItemsLeft}

-- the items of an array that a cursor has left
abbrev pub items_in : {H : Type 0} → ItemsLeft H → List (Dynamic H)
items_in left = drop left.at left.items
