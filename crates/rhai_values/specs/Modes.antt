-- What setting an access mode does: it reaches all items of nested arrays and maps; a handle has its own.
use Rattle.rhai_values.specs.declared.base.value.AccessMode.{AccessMode}
use Rattle.rhai_values.specs.declared.base.value.Dynamic.{Dynamic}
use Rattle.rhai_values.specs.declared.base.value.FnPtrKind.TheBlock.{Row_of-Dynamic as Row, end_of-Dynamic as end, more_of-Dynamic as more}
use Rattle.rhai_values.specs.declared.base.value.FnPtrKind.TheBlock.{Row_of-Union-Array-0-1 as Array_row}
use Rattle.rhai_values.specs.declared.base.value.FnPtrKind.TheBlock.{end_of-Union-Array-0-1 as array_end}
use Rattle.rhai_values.specs.declared.base.value.FnPtrKind.TheBlock.{more_of-Union-Array-0-1 as array_more}
use Rattle.rhai_values.specs.declared.base.value.FnPtrKind.TheBlock.{Row_of-Union-Map-0-1 as Map_row, end_of-Union-Map-0-1 as map_end}
use Rattle.rhai_values.specs.declared.base.value.FnPtrKind.TheBlock.{more_of-Union-Map-0-1 as map_more}
use Rattle.rhai_values.specs.declared.base.value.Union.{Union, Array', Map'}

module _ {H : Type 0} where
  -- a mode, set case by case: what is behind a pointer of its own stands in a row of one, and items in a row as long as their list
  abbrev mutual
    pub union_with_mode : AccessMode → Union H → Union H
    union_with_mode mode (Array' shape items) = Array' shape (array_with_mode mode items)
    union_with_mode mode (Map' shape entries) = Map' shape (map_with_mode mode entries)
    union_with_mode mode value = value

    -- an array's items under another mode
    pub array_with_mode : AccessMode → {n : _} → Array_row H n → Array_row H n
    array_with_mode mode array_end = array_end
    array_with_mode mode (array_more shape items rest) = array_more shape (row_with_mode mode items) (array_with_mode mode rest)

    -- a map's entries, the values under another mode
    pub map_with_mode : AccessMode → {n : _} → Map_row H n → Map_row H n
    map_with_mode mode map_end = map_end
    map_with_mode mode (map_more shape values rest) = map_more shape (row_with_mode mode values) (map_with_mode mode rest)

    -- the values in a row under another mode
    pub row_with_mode : AccessMode → {n : _} → Row H n → Row H n
    row_with_mode mode end = end
    row_with_mode mode (more value own rest) = more (union_with_mode mode value) mode (row_with_mode mode rest)

  -- a value under another mode
  abbrev pub with_mode : AccessMode → Dynamic H → Dynamic H
  with_mode mode d = record { value = union_with_mode mode d.value; mode = mode }
