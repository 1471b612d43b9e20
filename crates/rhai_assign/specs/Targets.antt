-- Where the value of a variable stands in the code, and what is written there.
use Rattle.std.specs.Prelude.{◌≡◌, ◌<◌, ℕ, Bool, true, false, List, length, Option, Some, None, is_some, unwrap_or, slice_get}
use Rattle.std.specs.Prelude.{Result, Ok, Err, is_ok}
use Rattle.rhai_tree.specs.declared.position.Position.{Position}
use Rattle.rhai_values.specs.declared.base.value.CellId.{CellId}
use Rattle.rhai_values.specs.declared.base.value.Dynamic.{Dynamic}
use Rattle.rhai_state.specs.declared.scope.Scope.{Scope}
use Rattle.rhai_state.specs.declared.scope.ScopeEntry.{ScopeEntry}
use Rattle.rhai_errors.specs.declared.error.EvalAltResult.{EvalAltResult}
use Rattle.rhai_values.specs.declared.cells.CellStore.{CellStore}
use Rattle.rhai_values.specs.Cells.{cells_of, value_of_cell, with_value}
use Rattle.rhai_errors.specs.Errors.{is_out_of_memory}
use Rattle.rhai_state.specs.Scope.{entries_of, value_in, revalued}
use Rattle.rhai_machine.specs.language.Values.{Cells, unit_value}
use Rattle.rhai_machine.specs.language.Names.{entry_named}
use Rattle.rhai_machine.specs.language.Places.{Place, InEntry, InCell, InThis, InFocus, Target, target, target_at}
use Rattle.rhai_assign.specs.declared.place.Place as code
use Rattle.rhai_assign.specs.declared.place.Place.TheVariants as place

-- a place of the code as the machine has it
abbrev pub place_in : code.Place → Place
place_in (place.InEntry index) = InEntry index
place_in (place.InCell id) = InCell id.number

-- the cell of a place, if it is one
abbrev pub own_cell : code.Place → Option CellId
own_cell (place.InEntry index) = None
own_cell (place.InCell id) = Some id

module _ {H : Type 0} where
  -- the target, where one was found
  abbrev pub if_found : Result (Target H) (EvalAltResult H) → Option (Target H)
  if_found (Ok target) = Some target
  if_found (Err e) = None

  -- the target of the variable at an entry, where it may be assigned to
  abbrev pub target_there : Cells H → List ℕ → Position → (entry : Option ℕ) → Option (Dynamic H) → Option (Target H)
  target_there cells name at (Some index) (Some v) = if_found (target_at cells name at index v.value v)
  target_there cells name at _ _ = None

  -- the target of a variable of a name that an entry has, where it has no path and may be assigned to
  abbrev pub named_target : Cells H → (path : List (List ℕ)) → List ℕ → Position → List (ScopeEntry H) → Option (Target H)
  named_target cells path name at entries =
      target_there cells name at (entry_named path name entries) (value_in entries (entry_named path name entries))

  -- the value at a place of a variable, None where there is none
  abbrev pub there : Place → List (ScopeEntry H) → Cells H → Option (Dynamic H)
  there (InEntry index) entries cells = value_in entries (Some index)
  there (InCell number) entries cells = value_of_cell cells number
  there InThis entries cells = None
  there InFocus entries cells = None

  -- there is a value at a place
  abbrev pub stands : Place → List (ScopeEntry H) → Cells H → Bool
  stands place entries cells = is_some (there place entries cells)

  -- the value at a place that has one
  abbrev pub standing : Place → List (ScopeEntry H) → Cells H → Dynamic H
  standing place entries cells = unwrap_or (there place entries cells) unit_value

  -- the place is an entry or a cell that there is, held or not
  abbrev pub IsKnown : Place → List (ScopeEntry H) → Cells H → Type 0
  IsKnown (InEntry index) entries cells = index < length entries
  IsKnown (InCell number) entries cells = number < length cells
  IsKnown InThis entries cells = ⊥
  IsKnown InFocus entries cells = ⊥

  -- the entries once a value is written to a place
  abbrev pub entries_put : Place → Dynamic H → List (ScopeEntry H) → List (ScopeEntry H)
  entries_put (InEntry index) v entries = revalued entries index (slice_get entries index) v
  entries_put (InCell number) v entries = entries
  entries_put InThis v entries = entries
  entries_put InFocus v entries = entries

  -- the cells once a value is written to a place
  abbrev pub cells_put : Place → Dynamic H → Cells H → Cells H
  cells_put (InEntry index) v cells = cells
  cells_put (InCell number) v cells = with_value cells number v
  cells_put InThis v cells = cells
  cells_put InFocus v cells = cells

  -- the value at a place of the code, None where there is none
  abbrev pub value_standing_at : code.Place → Scope H → CellStore H → Option (Dynamic H)
  value_standing_at place scope cells = there (place_in place) (entries_of scope) (cells_of cells)

  -- there is a value at a place of the code
  abbrev pub stands_at : code.Place → Scope H → CellStore H → Bool
  stands_at place scope cells = stands (place_in place) (entries_of scope) (cells_of cells)

  -- the value at a place of the code that has one
  abbrev pub standing_at : code.Place → Scope H → CellStore H → Dynamic H
  standing_at place scope cells = standing (place_in place) (entries_of scope) (cells_of cells)

  -- the place of the code is an entry or a cell that there is, held or not
  abbrev pub IsKnownAt : code.Place → Scope H → CellStore H → Type 0
  IsKnownAt place scope cells = IsKnown (place_in place) (entries_of scope) (cells_of cells)

  -- a value is written to a place, and nothing else is
  pub record IsPut (place : code.Place) (v : Dynamic H) (before after : Scope H) (old new : CellStore H) : Type 0 where
    pub entries : entries_of after ≡ entries_put (place_in place) v (entries_of before)
    pub cells : cells_of new ≡ cells_put (place_in place) v (cells_of old)

  -- a place that was found has the target's value; else there is none, and the error is the machine's, unless memory ran out
  abbrev pub Finds : Result code.Place (EvalAltResult H) → List (ScopeEntry H) → Cells H → Result (Target H) (EvalAltResult H) → Type 0
  Finds (Ok p) entries cells wanted =
      (wanted ≡ Ok (target (place_in p) (standing (place_in p) entries cells))) × (stands (place_in p) entries cells ≡ true)
  Finds (Err e) entries cells wanted = (is_ok wanted ≡ false) × (is_out_of_memory e ≡ false → wanted ≡ Err e)

  -- a place that was found has the target's value; where none was found there is no target
  abbrev pub FindsNamed : Option code.Place → List (ScopeEntry H) → Cells H → Option (Target H) → Type 0
  FindsNamed (Some p) entries cells wanted =
      (wanted ≡ Some (target (place_in p) (standing (place_in p) entries cells))) × (stands (place_in p) entries cells ≡ true)
  FindsNamed None entries cells wanted = wanted ≡ None
