-- What a copy of a value is: the same content, read-write throughout; a copied handle names the same cell.
use Rattle.rhai_values.specs.declared.base.value.AccessMode.TheVariants.{ReadWrite}
use Rattle.rhai_values.specs.declared.base.value.Dynamic.{Dynamic}
use Rattle.rhai_values.specs.declared.base.value.FnPtr.{FnPtr, FnPtr' as Pointer'}
use Rattle.rhai_values.specs.declared.base.value.FnPtrKind.TheBlock.{Row_of-Dynamic as Row, end_of-Dynamic as end, more_of-Dynamic as more}
use Rattle.rhai_values.specs.declared.base.value.FnPtrKind.TheBlock.{Row_of-Union-Array-0-1 as Array_row}
use Rattle.rhai_values.specs.declared.base.value.FnPtrKind.TheBlock.{end_of-Union-Array-0-1 as array_end}
use Rattle.rhai_values.specs.declared.base.value.FnPtrKind.TheBlock.{more_of-Union-Array-0-1 as array_more}
use Rattle.rhai_values.specs.declared.base.value.FnPtrKind.TheBlock.{Row_of-Union-Map-0-1 as Map_row, end_of-Union-Map-0-1 as map_end}
use Rattle.rhai_values.specs.declared.base.value.FnPtrKind.TheBlock.{more_of-Union-Map-0-1 as map_more}
use Rattle.rhai_values.specs.declared.base.value.FnPtrKind.TheBlock.{Row_of-FnPtr as Pointer_row, end_of-FnPtr as pointer_end}
use Rattle.rhai_values.specs.declared.base.value.FnPtrKind.TheBlock.{more_of-FnPtr as pointer_more}
use Rattle.rhai_values.specs.declared.base.value.Union.{Union, Unit, Bool, Int, Char, Str, ExclusiveRange, InclusiveRange, Array', Blob}
use Rattle.rhai_values.specs.declared.base.value.Union.{Map', FnPtr', Host, Cell}

module _ {H : Type 0} where
  -- a copy, case by case: what is behind a pointer of its own stands in a row of one, and items stand in a row as long as their list
  abbrev mutual
    pub copy_union : Union H → Union H
    copy_union Unit = Unit
    copy_union (Bool truth) = Bool truth
    copy_union (Int number) = Int number
    copy_union (Char letter) = Char letter
    copy_union (Str text) = Str text
    copy_union (ExclusiveRange start last) = ExclusiveRange start last
    copy_union (InclusiveRange start last) = InclusiveRange start last
    copy_union (Array' shape items) = Array' shape (copy_array items)
    copy_union (Blob bytes) = Blob bytes
    copy_union (Map' shape entries) = Map' shape (copy_map entries)
    copy_union (FnPtr' shape pointer) = FnPtr' shape (copy_pointers pointer)
    copy_union (Host host) = Host host
    copy_union (Cell id) = Cell id

    -- a copy of an array's items
    pub copy_array : {n : _} → Array_row H n → Array_row H n
    copy_array array_end = array_end
    copy_array (array_more shape items rest) = array_more shape (copy_row items) (copy_array rest)

    -- a copy of a map's entries: the keys stay, and the values are copied
    pub copy_map : {n : _} → Map_row H n → Map_row H n
    copy_map map_end = map_end
    copy_map (map_more shape values rest) = map_more shape (copy_row values) (copy_map rest)

    -- a copy of the pointer in a row of one
    pub copy_pointers : {n : _} → Pointer_row H n → Pointer_row H n
    copy_pointers pointer_end = pointer_end
    copy_pointers (pointer_more pointer rest) = pointer_more (copy_pointer pointer) (copy_pointers rest)

    -- the curried values are copied, and what the pointer leads to is shared
    pub copy_pointer : FnPtr H → FnPtr H
    copy_pointer (Pointer' name shape curry kind) = Pointer' name shape (copy_row curry) kind

    -- copies of the values in a row, each read-write
    pub copy_row : {n : _} → Row H n → Row H n
    copy_row end = end
    copy_row (more value mode rest) = more (copy_union value) ReadWrite (copy_row rest)

  -- a copy of a value
  abbrev pub copy_of : Dynamic H → Dynamic H
  copy_of d = record { value = copy_union d.value; mode = ReadWrite }

  -- a value that may be written
  abbrev pub plain : Union H → Dynamic H
  plain u = record { value = u; mode = ReadWrite }
