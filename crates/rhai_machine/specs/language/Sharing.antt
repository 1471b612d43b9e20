-- The rule of shared variables: what a closure shares with its script becomes the handle of a cell.
use Rattle.std.specs.Prelude.{ℕ, List, [], ◌∷◌, ◌++◌, length, Option, Some}
use Rattle.rhai_machine.specs.Types.{AccessMode, Dynamic, Ident, SharedVariable, Union}
use Rattle.rhai_values.specs.declared.base.value.Union.TheVariants as value
use Rattle.rhai_errors.specs.declared.error.EvalAltResult.TheVariants as error
use Rattle.rhai_state.specs.Scope.{found, index_of}
use Rattle.rhai_machine.specs.language.State.{Local}
use Rattle.rhai_machine.specs.language.Values.{unit_value}
use Rattle.rhai_machine.specs.language.Places.{InEntry, put}
use Rattle.rhai_machine.specs.language.Frames.{Frame, Core, core, Share, Back, Fail}

module _ {H : Type 0} where
  -- the handle of a cell, with a mode of its own
  abbrev pub handle_of : (number : ℕ) → AccessMode → Dynamic H
  handle_of number mode = record { value = value.Cell (record { number = number }); mode = mode }

  -- the local state with a new cell, the last one, which has this value as it is
  abbrev pub with_cell : Dynamic H → Local H → Local H
  with_cell v l = record l { around = record l.around { cells = l.around.cells ++ Some v ∷ [] } }

  -- the value of an entry goes into a new cell, and the entry becomes its handle, with the value's mode; a handle is left as it is
  abbrev pub shared : (index : ℕ) → Union H → Dynamic H → Local H → Local H
  shared index (value.Cell id) v l = l
  shared index _ v l = put (InEntry index) (handle_of (length l.around.cells) v.mode) (with_cell v l)

  -- the variable of a name is shared, and then the others; where there is none, its name is not found, at the name
  abbrev pub shared_core : Ident → Option ℕ → Option (Dynamic H) → (rest : List SharedVariable) → List (Frame H) → Local H → Core H
  shared_core ident (Some index) (Some v) rest k l = core (Share rest) k (shared index v.value v l)
  shared_core ident _ _ rest k l = core (Fail (error.ErrorVariableNotFound ident.name ident.pos)) k l

  -- variables are shared one after the other, the newest of each name; those before a name that is not there stay shared
  abbrev pub share_core : List SharedVariable → List (Frame H) → Local H → Core H
  share_core [] k l = core (Back unit_value) k l
  share_core (variable ∷ rest) k l =
      shared_core variable.ident (index_of variable.ident.name l.scope) (found variable.ident.name l.scope) rest k l
