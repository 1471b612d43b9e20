-- How a variable of a `for` is written.
use Rattle.std.specs.Prelude.{◌≡◌, List, Option, Some, None, Result, Ok, Err, false}
use Rattle.rhai_values.specs.declared.base.value.CellId.{CellId}
use Rattle.rhai_values.specs.declared.base.value.Dynamic.{Dynamic}
use Rattle.rhai_values.specs.declared.base.value.Union.{Union}
use Rattle.rhai_values.specs.declared.base.value.Union.TheVariants as value
use Rattle.rhai_errors.specs.declared.error.EvalAltResult.{EvalAltResult}
use Rattle.rhai_state.specs.declared.scope.ScopeEntry.{ScopeEntry}
use Rattle.rhai_errors.specs.Errors.{is_out_of_memory}
use Rattle.rhai_machine.specs.language.State.{Local}
use Rattle.rhai_machine.specs.language.Places.{Place, put}

module _ {H : Type 0} where
  -- the cell that a value is the handle of
  abbrev pub cell_in : Union H → Option CellId
  cell_in (value.Cell id) = Some id
  cell_in _ = None

  -- a local state with these variables and cells
  abbrev pub seen_as : List (ScopeEntry H) → List (Option (Dynamic H)) → Local H → Local H
  seen_as entries cells l = record l { scope = entries; around = record l.around { cells = cells } }

  -- the value is written to its place; or there is no place, and the error says why, unless memory ran out
  abbrev pub Wrote : Result (Unit {0}) (EvalAltResult H) → Result Place (EvalAltResult H) → Dynamic H → Local H →
      List (ScopeEntry H) → List (Option (Dynamic H)) → Type 0
  Wrote (Ok done) (Ok place) v l entries cells = put place v l ≡ seen_as entries cells l
  Wrote (Ok done) (Err e) v l entries cells = ⊥
  Wrote (Err e) (Ok place) v l entries cells = ⊥
  Wrote (Err e) (Err wanted) v l entries cells = is_out_of_memory e ≡ false → e ≡ wanted
