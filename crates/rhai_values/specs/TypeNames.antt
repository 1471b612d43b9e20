-- The names of the types of values, as scripts see them.
use Rattle.std.specs.Prelude.{ℕ, List, [], Option, Some, None, codes}
use Rattle.rhai_values.specs.declared.base.value.Dynamic.{Dynamic}
use Rattle.rhai_values.specs.declared.base.value.Union.{Union, Unit, Bool, Int, Char, Str, ExclusiveRange, InclusiveRange, Array', Blob}
use Rattle.rhai_values.specs.declared.base.value.Union.{Map', FnPtr', Host, Cell}
use Rattle.rhai_values.specs.Cells.{value_of_cell}

module _ {H : Type 0} (host_name : H → List ℕ) where
  -- the name of a value's own type, none for a handle
  abbrev pub own_type_name : Union H → List ℕ
  own_type_name Unit = codes "()"
  own_type_name (Bool truth) = codes "bool"
  own_type_name (Int number) = codes "i64"
  own_type_name (Char letter) = codes "char"
  own_type_name (Str text) = codes "string"
  own_type_name (ExclusiveRange start last) = codes "range"
  own_type_name (InclusiveRange start last) = codes "range="
  own_type_name (Array' shape items) = codes "array"
  own_type_name (Blob bytes) = codes "blob"
  own_type_name (Map' shape entries) = codes "map"
  own_type_name (FnPtr' shape pointer) = codes "Fn"
  own_type_name (Host host) = host_name host
  own_type_name (Cell id) = []

  -- the name of the type of a cell's value, the empty text where there is no value
  abbrev pub cell_type_name : Option (Dynamic H) → List ℕ
  cell_type_name None = []
  cell_type_name (Some d) = own_type_name d.value

  -- the name of the type of what a value is, or of what the cell of a handle has
  abbrev pub union_type_name : List (Option (Dynamic H)) → Union H → List ℕ
  union_type_name cells (Cell id) = cell_type_name (value_of_cell cells id.number)
  union_type_name cells value = own_type_name value

  -- the name of a value's type, that of its cell's value for a handle
  abbrev pub type_name_of : List (Option (Dynamic H)) → Dynamic H → List ℕ
  type_name_of cells d = union_type_name cells d.value
