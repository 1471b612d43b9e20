-- A target that is lent to the code, and where the machine has it meanwhile.
use Rattle.std.specs.Prelude.{◌≡◌, ⊤, ℕ, true, false, Option, Some, None}
use Rattle.std.specs.Option.{option_map}
use Rattle.rhai_values.specs.declared.base.value.CellId.{CellId}
use Rattle.rhai_values.specs.declared.base.value.Dynamic.{Dynamic}
use Rattle.rhai_values.specs.Cells.{IsHeld, with_value}
use Rattle.rhai_machine.specs.language.State.{State}
use Rattle.rhai_machine.specs.language.Values.{Cells, is_handle}
use Rattle.rhai_machine.specs.language.Places.{Place, InEntry, InCell, InThis, InFocus, is_constant, put}

-- the cell of a place, if it is one
abbrev pub cell_of : Place → Option ℕ
cell_of (InEntry index) = None
cell_of (InCell number) = Some number
cell_of InThis = None
cell_of InFocus = None

-- the code took the target from the cell of its place, or from no cell where the place is none
abbrev pub IsLentFrom : Place → Option CellId → Type 0
IsLentFrom place cell = cell_of place ≡ option_map (λ (id : CellId). id.number) cell

module _ {H : Type 0} where
  -- the cell that a target was taken from is held
  abbrev pub IsOwnCell : Option CellId → Cells H → Type 0
  IsOwnCell None cells = ⊤
  IsOwnCell (Some id) cells = IsHeld cells id.number

  -- the cells with the target back in its own
  abbrev pub cells_seen : Option CellId → Dynamic H → Cells H → Cells H
  cells_seen None v cells = cells
  cells_seen (Some id) v cells = with_value cells id.number v

  -- a constant that is lent is no handle
  abbrev pub IsFree : Dynamic H → Type 0
  IsFree v = is_constant v.mode ≡ true → is_handle v.value ≡ false

  -- the state of the code with the target back at its place
  abbrev pub placed : {S : Type 0} → Place → Dynamic H → State S H → State S H
  placed place v s = record s { local = put place v s.local }
