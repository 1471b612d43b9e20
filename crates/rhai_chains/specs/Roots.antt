-- Where the walk of a chain begins: on the value of a variable, which may be a temporary, or on `this`.
use Rattle.std.specs.Prelude.{◌≡◌, ℕ, true, false, List, [], Option, Some, None, Result, Ok, Err, slice_get}
use Rattle.rhai_tree.specs.declared.position.Position.{Position}
use Rattle.rhai_values.specs.declared.base.value.Dynamic.{Dynamic}
use Rattle.rhai_values.specs.Cells.{cells_of}
use Rattle.rhai_errors.specs.declared.error.EvalAltResult.{EvalAltResult}
use Rattle.rhai_errors.specs.declared.error.EvalAltResult.TheVariants as error
use Rattle.rhai_state.specs.declared.scope.ScopeEntry.{ScopeEntry}
use Rattle.rhai_lookups.specs.declared.run.RunState.{RunState}
use Rattle.rhai_errors.specs.Errors.{is_out_of_memory}
use Rattle.rhai_state.specs.Scope.{revalued, value_in}
use Rattle.rhai_machine.specs.language.Calls.{is_held}
use Rattle.rhai_machine.specs.language.Setting.{Globals}
use Rattle.rhai_machine.specs.language.Variables.{Variable}
use Rattle.rhai_machine.specs.language.Names.{entry_named, value_beside}
use Rattle.rhai_machine.specs.language.Values.{Cells}
use Rattle.rhai_steps.specs.States.{surroundings_of}
use Rattle.rhai_context.specs.Ends.{unit}

module _ {H : Type 0} where
  module _ (globals : Globals H) (global : RunState H) (variable : Variable) where
    -- why no walk begins on a variable, by the entry that it means: it means nothing, or the entry is the handle of a held cell
    abbrev pub RefusesVariable : List (ScopeEntry H) → Option ℕ → EvalAltResult H → Type 0
    RefusesVariable entries None e = is_out_of_memory e ≡ false → Err e ≡ value_beside globals (surroundings_of global) variable
    RefusesVariable entries (Some i) e = (v : Dynamic H) × ((value_in entries (Some i) ≡ Some v)
        × ((is_held (cells_of global.cells) v.value ≡ true)
        × (is_out_of_memory e ≡ false → e ≡ error.ErrorDataRace variable.name variable.at)))

    -- a walk begins on the value of an entry, which has `()` meanwhile, or on a temporary; or on nothing
    abbrev pub LendsVariable : (old : List (ScopeEntry H)) → Result (Option ℕ × Dynamic H) (EvalAltResult H) →
        (new : List (ScopeEntry H)) → Type 0
    LendsVariable old (Ok (Some i, v)) new = (entry_named variable.path.names variable.name old ≡ Some i)
        × ((value_in old (Some i) ≡ Some v)
        × ((is_held (cells_of global.cells) v.value ≡ false) × (new ≡ revalued old i (slice_get old i) unit)))
    LendsVariable old (Ok (None, v)) new = (entry_named variable.path.names variable.name old ≡ None)
        × ((Ok v ≡ value_beside globals (surroundings_of global) variable) × (new ≡ old))
    LendsVariable old (Err e) new = RefusesVariable old (entry_named variable.path.names variable.name old) e

  -- what a walk began on goes back to where it was lent from
  abbrev pub GoesBack : Option ℕ → Dynamic H → (old new : List (ScopeEntry H)) → Type 0
  GoesBack (Some i) v old new = new ≡ revalued old i (slice_get old i) v
  GoesBack None v old new = new ≡ old

  -- why no walk begins on `this`: it is not bound, or it is the handle of a held cell
  abbrev pub RefusesThis : Cells H → Position → Option (Dynamic H) → EvalAltResult H → Type 0
  RefusesThis cells at None e = e ≡ error.ErrorUnboundThis at
  RefusesThis cells at (Some v) e = (is_held cells v.value ≡ true) × (is_out_of_memory e ≡ false → e ≡ error.ErrorDataRace [] at)
