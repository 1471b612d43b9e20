-- The focus, which is what a chain's link works on, and what is done where it is the handle of a cell.
use Rattle.std.specs.Prelude.{List, ◌∷◌, Option, Some}
use Rattle.std.specs.Option.{unwrap_or}
use Rattle.rhai_machine.specs.Types.{Dynamic, Union}
use Rattle.rhai_values.specs.declared.base.value.Union.TheVariants as value
use Rattle.rhai_values.specs.Cells.{with_held}
use Rattle.rhai_spots.specs.Paths.{ToCell}
use Rattle.rhai_machine.specs.language.State.{Local}
use Rattle.rhai_machine.specs.language.Values.{unit_value}
use Rattle.rhai_machine.specs.language.Frames.{Frame, Core, StepDown}

module _ {H : Type 0} where
  -- the value of the focus, `()` where there is none
  abbrev pub focus_of : Local H → Dynamic H
  focus_of l = unwrap_or l.focus unit_value

  -- the local state with another focus
  abbrev pub focused_on : Option (Dynamic H) → Local H → Local H
  focused_on focus l = record l { focus = focus }

  -- the focus is entered, by its kind: of a handle the cell's value is the focus then, and the cell is held until it is left
  abbrev pub entered_by : Union H → (inner : Dynamic H) → (List (Frame H) → Local H → Core H) → List (Frame H) → Local H → Core H
  entered_by (value.Cell id) inner go k l = go (StepDown (focus_of l) (ToCell id.number) ∷ k)
      (record l { focus = Some inner; around = record l.around { cells = with_held l.around.cells id.number } })
  entered_by _ inner go k l = go k l

  -- the focus is entered where it is a handle, and then what comes next is done
  abbrev pub entered : (inner : Dynamic H) → (List (Frame H) → Local H → Core H) → List (Frame H) → Local H → Core H
  entered inner go k l = entered_by (focus_of l).value inner go k l
