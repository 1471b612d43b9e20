-- What decides whether a state and a scope fit together, test by test.
use Rattle.std.specs.Prelude.{ℕ, Bool, true, false, nat_lt, List, length, Option, Some, None, is_some}
use Rattle.std.specs.List.{list_all}
use Rattle.rhai_values.specs.declared.base.value.Dynamic.{Dynamic}
use Rattle.rhai_values.specs.declared.base.value.Union.{Union}
use Rattle.rhai_values.specs.declared.base.value.Union.TheVariants as value
use Rattle.rhai_values.specs.Cells.{cells_of, value_of_cell}
use Rattle.rhai_state.specs.declared.state.GlobalRuntimeState.{GlobalRuntimeState}
use Rattle.rhai_values.specs.ValueContents.{Reached, Cell, Function, Constants}

module _ {H : Type 0} where
  -- the state has the cell of a number, and the cell is not held
  abbrev pub has_cell : GlobalRuntimeState H → ℕ → Bool
  has_cell global number = is_some (value_of_cell (cells_of global.cells) number)

  -- the state has the table of constants of a number
  abbrev pub has_table : GlobalRuntimeState H → ℕ → Bool
  has_table global number = nat_lt number (length global.constant_tables)

  -- what is reached is there; a script function always is
  abbrev pub is_there : GlobalRuntimeState H → Reached → Bool
  is_there global (Cell number) = has_cell global number
  is_there global (Function def) = true
  is_there global (Constants number) = has_table global number

  -- all of what is reached is there
  abbrev pub are_there : GlobalRuntimeState H → List Reached → Bool
  are_there global reached = list_all (is_there global) reached

  -- a value that is no bare handle
  abbrev pub is_no_handle : Union H → Bool
  is_no_handle (value.Cell id) = false
  is_no_handle _ = true

  -- a cell that is not held, and whose value is no bare handle
  abbrev pub is_sealed : Option (Dynamic H) → Bool
  is_sealed None = false
  is_sealed (Some v) = is_no_handle v.value
