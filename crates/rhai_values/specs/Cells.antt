-- The store of cells as a plain list, by their numbers: the value of each, None where it is held.
use Rattle.std.specs.Prelude.{◌≡◌, ⊤, ℕ, List, Option, Some, None, slice_get, slice_set}
use Rattle.std.specs.Option.{option_flatten}
use Rattle.rhai_values.specs.declared.base.value.Dynamic.{Dynamic}
use Rattle.rhai_values.specs.declared.base.value.Union.{Union}
use Rattle.rhai_values.specs.declared.base.value.Union.TheVariants as value
use Rattle.rhai_values.specs.declared.cells.CellStore.{CellStore}

module _ {H : Type 0} where
  -- the cells of a store, in the order of their numbers
  abbrev pub cells_of : CellStore H → List (Option (Dynamic H))
  cells_of store = store.cells

  -- the value of a cell, None where the cell is held or unknown
  abbrev pub value_of_cell : List (Option (Dynamic H)) → ℕ → Option (Dynamic H)
  value_of_cell cells number = option_flatten (slice_get cells number)

  -- a cell is held
  abbrev pub IsHeld : List (Option (Dynamic H)) → ℕ → Type 0
  IsHeld cells number = slice_get cells number ≡ Some None

  -- the cells after one is held
  abbrev pub with_held : List (Option (Dynamic H)) → ℕ → List (Option (Dynamic H))
  with_held cells number = slice_set cells number None

  -- the cells after one has a value
  abbrev pub with_value : List (Option (Dynamic H)) → ℕ → Dynamic H → List (Option (Dynamic H))
  with_value cells number value = slice_set cells number (Some value)

  -- a value that is no bare handle of a cell
  abbrev pub IsNoHandle : Union H → Type 0
  IsNoHandle (value.Cell id) = ⊥
  IsNoHandle _ = ⊤
