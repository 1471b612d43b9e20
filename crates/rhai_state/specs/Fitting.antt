-- When a state and a scope fit together.
use Rattle.std.specs.Prelude.{◌≡◌, ℕ, ◌<◌, List, length, Option, Some, IsSome}
use Rattle.rhai_values.specs.declared.base.value.Dynamic.{Dynamic}
use Rattle.rhai_values.specs.Cells.{cells_of, value_of_cell, IsHeld, IsNoHandle}
use Rattle.rhai_state.specs.declared.scope.Scope.{Scope}
use Rattle.rhai_state.specs.declared.state.GlobalRuntimeState.{GlobalRuntimeState}
use Rattle.rhai_values.specs.ValueContents.{Cell, Constants}
use Rattle.rhai_state.specs.Reached.{Reaches}

module _ {H : Type 0} where
  -- a cell of the store that is not held
  abbrev pub IsFree : List (Option (Dynamic H)) → ℕ → Type 0
  IsFree cells number = IsSome (value_of_cell cells number)

  -- a table of constants of a state
  abbrev pub IsTable : GlobalRuntimeState H → ℕ → Type 0
  IsTable global number = number < length global.constant_tables

  -- a state and a scope fit together: what they reach is there, and no cell of the store is held or has a bare handle
  pub record FitsTogether (global : GlobalRuntimeState H) (scope : Scope H) : Type 0 where
    -- each cell that is reached is in the store, and not held
    pub cells : (number : ℕ) → Reaches global scope (Cell number) → IsFree (cells_of global.cells) number
    -- each table of constants that is reached is one of the state's, and so is the current one
    pub tables : (number : ℕ) → Reaches global scope (Constants number) → IsTable global number
    pub current : IsTable global global.constants
    -- no cell of the store is held, reached or not, and none has a bare handle
    pub none_held : (number : ℕ) → IsHeld (cells_of global.cells) number → ⊥
    pub no_handles : (number : ℕ) (v : Dynamic H) → value_of_cell (cells_of global.cells) number ≡ Some v → IsNoHandle v.value
