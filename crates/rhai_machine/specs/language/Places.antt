-- The places where a value is written to: of a variable, of `this`, and of the focus of a chain.
use Rattle.std.specs.Prelude.{ℕ, Bool, true, false, not, ◌&&◌, ◌||◌, List, [], Option, Some, None, Result, Ok, Err, slice_get}
use Rattle.rhai_machine.specs.Types.{AccessMode, Dynamic, EvalAltResult, Position, ScopeEntry, Union}
use Rattle.rhai_values.specs.declared.base.value.AccessMode.TheVariants.{ReadWrite, ReadOnly}
use Rattle.rhai_values.specs.declared.base.value.Union.TheVariants as value
use Rattle.rhai_errors.specs.declared.error.EvalAltResult.TheVariants as error
use Rattle.rhai_values.specs.Cells.{value_of_cell, with_held, with_value}
use Rattle.rhai_state.specs.Scope.{revalued}
use Rattle.rhai_machine.specs.language.Setting.{Globals}
use Rattle.rhai_machine.specs.language.State.{Local, Surroundings}
use Rattle.rhai_machine.specs.language.Values.{Cells}
use Rattle.rhai_machine.specs.language.Variables.{Variable}
use Rattle.rhai_machine.specs.language.Names.{Meaning, AtEntry, AsTemporary, meant}

-- where a value is written to: an entry of the scope, a cell, `this`, or the focus
pub data Place : Type 0 where
  InEntry : (index : ℕ) → Place
  InCell : (number : ℕ) → Place
  InThis : Place
  InFocus : Place

-- a place with the value that stands there
pub record Target (H : Type 0) : Type 0 where
  pub place : Place
  pub value : Dynamic H

-- whether a mode is that of a constant
abbrev pub is_constant : AccessMode → Bool
is_constant ReadOnly = true
is_constant ReadWrite = false

module _ {H : Type 0} where
  -- whether a value is kept from a native: it is a constant, and the native is not pure
  abbrev pub is_barred : (is_pure : Bool) → Dynamic H → Bool
  is_barred is_pure v = is_constant v.mode && not is_pure

  -- a place with its value
  abbrev pub target : Place → Dynamic H → Target H
  target place v = record { place = place; value = v }

  -- a target, or the error that a constant of this name is assigned to
  abbrev pub unless_constant : Bool → List ℕ → Position → Target H → Result (Target H) (EvalAltResult H)
  unless_constant true name at place = Err (error.ErrorAssignmentToConstant name at)
  unless_constant false name at place = Ok place

  -- the target of a variable that is a handle: its cell; handle or value may make it a constant, and a held cell is a data race
  abbrev pub target_in_cell : List ℕ → Position → AccessMode → ℕ → Option (Dynamic H) → Result (Target H) (EvalAltResult H)
  target_in_cell name at mode number (Some v) = unless_constant (is_constant mode || is_constant v.mode) name at (target (InCell number) v)
  target_in_cell name at mode number None = Err (error.ErrorDataRace name at)

  -- the target of a variable in the scope, by the kind of its value: a handle leads to its cell, and anything else is its entry
  abbrev pub target_at : Cells H → List ℕ → Position → (index : ℕ) → Union H → Dynamic H → Result (Target H) (EvalAltResult H)
  target_at cells name at index (value.Cell id) v = target_in_cell name at v.mode id.number (value_of_cell cells id.number)
  target_at cells name at index _ v = unless_constant (is_constant v.mode) name at (target (InEntry index) v)

  -- the target of what a variable means: a temporary counts as a constant
  abbrev pub target_meant : Cells H → List ℕ → Position → Result (Meaning H) (EvalAltResult H) → Result (Target H) (EvalAltResult H)
  target_meant cells name at (Ok (AtEntry index v)) = target_at cells name at index v.value v
  target_meant cells name at (Ok (AsTemporary v)) = Err (error.ErrorAssignmentToConstant name at)
  target_meant cells name at (Err e) = Err e

  -- the target of a variable, or why it can not be assigned to
  abbrev pub target_of : Globals H → Surroundings H → List (ScopeEntry H) → Variable → Result (Target H) (EvalAltResult H)
  target_of globals around scope variable =
      target_meant around.cells variable.name variable.at (meant globals around scope variable)

  -- the target of a focus or a `this` that is a handle: its cell; a constant handle is refused even where the cell is held
  abbrev pub focus_in_cell : List ℕ → Position → AccessMode → ℕ → Option (Dynamic H) → Result (Target H) (EvalAltResult H)
  focus_in_cell name at mode number (Some v) = unless_constant (is_constant mode || is_constant v.mode) name at (target (InCell number) v)
  focus_in_cell name at ReadOnly number None = Err (error.ErrorAssignmentToConstant name at)
  focus_in_cell name at ReadWrite number None = Err (error.ErrorDataRace [] at)

  -- the target of the focus, by its kind: a handle leads to its cell
  abbrev pub focus_at : Cells H → List ℕ → Position → Union H → Dynamic H → Result (Target H) (EvalAltResult H)
  focus_at cells name at (value.Cell id) v = focus_in_cell name at v.mode id.number (value_of_cell cells id.number)
  focus_at cells name at _ v = unless_constant (is_constant v.mode) name at (target InFocus v)

  -- the target of the focus; a constant is refused under the name of the chain's root
  abbrev pub focus_target : Cells H → List ℕ → Position → Dynamic H → Result (Target H) (EvalAltResult H)
  focus_target cells name at v = focus_at cells name at v.value v

  -- the target of `this`, by its kind: a handle leads to its cell; a constant is refused without a name
  abbrev pub this_at : Cells H → Position → Union H → Dynamic H → Result (Target H) (EvalAltResult H)
  this_at cells at (value.Cell id) v = focus_in_cell [] at v.mode id.number (value_of_cell cells id.number)
  this_at cells at _ v = unless_constant (is_constant v.mode) [] at (target InThis v)

  -- the target of `this`, or the error that it is not bound
  abbrev pub this_target : Cells H → Position → Option (Dynamic H) → Result (Target H) (EvalAltResult H)
  this_target cells at (Some v) = this_at cells at v.value v
  this_target cells at None = Err (error.ErrorUnboundThis at)

  -- another value for `this` where it is bound; an unbound one stays so
  abbrev pub rebound : Dynamic H → Option (Dynamic H) → Option (Dynamic H)
  rebound v (Some this) = Some v
  rebound v None = None

  -- a value is written to a place
  abbrev pub put : Place → Dynamic H → Local H → Local H
  put (InEntry index) v l = record l { scope = revalued l.scope index (slice_get l.scope index) v }
  put (InCell number) v l = record l { around = record l.around { cells = with_value l.around.cells number v } }
  put InThis v l = record l { this = rebound v l.this }
  put InFocus v l = record l { focus = Some v }

  -- the cells while the value of a place is lent to a native: where the place is a cell, that is held
  abbrev pub while_lent : Place → Cells H → Cells H
  while_lent (InEntry index) cells = cells
  while_lent (InCell number) cells = with_held cells number
  while_lent InThis cells = cells
  while_lent InFocus cells = cells
