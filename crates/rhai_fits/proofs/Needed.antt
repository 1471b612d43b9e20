-- Why the laws ask that a core is sealed: without it, one step puts a bare handle into a cell.
use Rattle.std.proofs.Common.{[], ◌∷◌}
use Rattle.std.specs.Prelude.{Some, None}
use Rattle.rhai_machine.specs.Types.{Dynamic, Position}
use Rattle.rhai_values.specs.declared.base.value.AccessMode.TheVariants.{ReadWrite}
use Rattle.rhai_spots.specs.Paths.{ToCell}
use Rattle.rhai_machine.specs.language.Setting.{Setting, globals_of}
use Rattle.rhai_machine.specs.language.State.{Local, Surroundings}
use Rattle.rhai_machine.specs.language.Values.{unit_value}
use Rattle.rhai_machine.specs.language.Places.{target_of}
use Rattle.rhai_machine.specs.language.Variables.{no_path}
use Rattle.rhai_machine.specs.language.Sharing.{handle_of}
use Rattle.rhai_machine.specs.language.Frames.{Assignment, StepDown}
use Rattle.rhai_machine.specs.language.Assignment.{store_core, variable_of_assignment}
use Rattle.rhai_machine.specs.language.Unwinding.{up_core}
use Rattle.rhai_fits.specs.Sealed.{AreSealed}

module _ {H : Type 0} (s : Setting H) (around : Surroundings H) (at : Position) where
  -- the handle of the first cell
  abbrev handle : Dynamic H
  handle = handle_of 0 ReadWrite

  -- one cell with `()`, one variable that is its handle, and the handle in the focus too
  abbrev state : Local H
  state = record {
    scope = record { name = []; value = handle; aliases = [] } ∷ [];
    this = None;
    focus = Some handle;
    scope_level = 0;
    around = record around { cells = Some unit_value ∷ [] };
  }

  pub state_is_sealed : AreSealed state.around.cells
  state_is_sealed = (tt, tt)

  -- the variable is assigned the handle
  abbrev assignment : Assignment
  assignment = record { path = no_path; name = []; at = at; op = record { op = None; position = at } }

  abbrev assigned : Local H
  assigned = (store_core s (target_of (globals_of s.offer) state.around state.scope (variable_of_assignment assignment)) assignment handle
      [] state).local

  pub assigned_handle : AreSealed assigned.around.cells → ⊥
  assigned_handle h = h.0

  -- a focus that is a handle goes back into its cell
  pub handle_back : AreSealed (up_core s (StepDown handle (ToCell 0)) unit_value [] state).local.around.cells → ⊥
  handle_back h = h.0
