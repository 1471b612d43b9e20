-- A branch is entered and left.
use Rattle.std.specs.Prelude.{ℕ, Bool, true, false, List, [], ◌∷◌, Option, Some, None, Result, Ok, Err}
use Rattle.rhai_machine.specs.Types.{Dynamic, EvalAltResult, Ident, ScopeEntry}
use Rattle.rhai_values.specs.declared.base.value.AccessMode.TheVariants.{ReadWrite}
use Rattle.rhai_errors.specs.declared.error.EvalAltResult.TheVariants as error
use Rattle.rhai_state.specs.Scope.{new_entry}
use Rattle.rhai_machine.specs.language.Caught.{caught_value, raised, thrown}
use Rattle.rhai_machine.specs.language.Values.{Cells, unit_value}

module _ {H : Type 0} where
  -- the entry of the catch variable, if there is one
  abbrev pub bound : Option Ident → (source : Option (List ℕ)) → EvalAltResult H → List (ScopeEntry H)
  bound None source caught = []
  bound (Some variable) source caught =
      new_entry variable.name ReadWrite (caught_value (thrown caught) source caught) ∷ []

  -- whether there is room for the catch variable, or the error that there is none
  abbrev pub room_for_caught : Option Ident → (full : Bool) → Result (Unit {0}) (EvalAltResult H)
  room_for_caught None full = Ok tt
  room_for_caught (Some variable) true = Err (error.ErrorTooManyVariables variable.pos)
  room_for_caught (Some variable) false = Ok tt

  -- what comes out of a branch: `()`, or the error that it raises
  abbrev pub left_by : Cells H → (caught : EvalAltResult H) → Result (Dynamic H) (EvalAltResult H) → Result (Dynamic H) (EvalAltResult H)
  left_by cells caught (Ok v) = Ok unit_value
  left_by cells caught (Err e) = Err (raised cells caught e)
