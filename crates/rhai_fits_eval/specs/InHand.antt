-- What a caller has in hand before a call and behind it, and what the call keeps of that.
use Rattle.std.specs.Prelude.{◌⊎◌, ◌≤◌, ◌<◌, ⊤, ℕ, Bool, Option, Result, Ok, Err, Contains, length}
use Rattle.rhai_values.specs.declared.base.value.Dynamic.{Dynamic}
use Rattle.rhai_errors.specs.declared.error.EvalAltResult.{EvalAltResult}
use Rattle.rhai_values.specs.ValueContents.{Reached, Cell, Function, Constants}
use Rattle.rhai_spots.specs.declared.part.Part.{Part}
use Rattle.rhai_places.specs.declared.target.Target.{Target}
use Rattle.rhai_spots.specs.Targets.{shown}
use Rattle.rhai_machine.specs.language.Setting.{Rules}
use Rattle.rhai_machine.specs.language.State.{State}
use Rattle.rhai_fits.specs.Contents.{Contents, Nothing, OneValue, OneError, Both, of_maybe, of_scope, of_cells, of_around, of_offer, Has}
use Rattle.rhai_fits.specs.Sealed.{AreSealed}
use Rattle.rhai_laws.specs.Kept.{Around}
use Rattle.rhai_calls.specs.Targets.{value_walked_on}

module _ {H : Type 0} where
  -- ---- what a caller has in hand

  -- a value that comes with whether the call changed its first argument, or an error
  abbrev pub of_changed : Result (Dynamic H × Bool) (EvalAltResult H) → Contents H
  of_changed (Ok answer) = OneValue answer.0
  of_changed (Err e) = OneError e

  -- an answer that tells no value, or an error
  abbrev pub of_done : Result (Unit {0}) (EvalAltResult H) → Contents H
  of_done (Ok done) = Nothing
  of_done (Err e) = OneError e

  -- what a chain goes on with behind a target, and what the target shows: a temporary's place is touched by no call
  abbrev pub of_target : Part H → (place : Dynamic H) → Contents H
  of_target what place = Both (OneValue (value_walked_on what place)) (OneValue (shown what place))

  -- what a target borrows and what it shows, or an error
  abbrev pub of_lent : Result (Target H) (EvalAltResult H) → Contents H
  of_lent (Ok target) = Both (OneValue target.at.now) (OneValue (shown target.part target.at.now))
  of_lent (Err e) = OneError e

  -- ---- what a state has

  -- a state whose focus is a place of the caller, or nothing
  abbrev pub at_work : {S : Type 0} → Option (Dynamic H) → State S H → State S H
  at_work focus s = record s { local = record s.local { focus = focus } }

  -- its variables, its `this`, its cells, and the modules and tables of constants around them
  abbrev pub of_state : {S : Type 0} → State S H → Contents H
  of_state s =
      Both (of_scope s.local.scope) (Both (of_maybe s.local.this) (Both (of_cells s.local.around.cells) (of_around s.local.around)))

  -- how many cells a state has
  abbrev pub cells_in : {S : Type 0} → State S H → ℕ
  cells_in s = length s.local.around.cells

  -- how many tables of constants a state has
  abbrev pub tables_in : {S : Type 0} → State S H → ℕ
  tables_in s = length s.local.around.constant_tables

  -- there in a state: a cell of the store, and a table of constants of the state; a script function always is
  abbrev pub IsThere : {S : Type 0} → State S H → Reached → Type 0
  IsThere s (Cell n) = n < cells_in s
  IsThere s (Function def) = ⊤
  IsThere s (Constants n) = n < tables_in s

  -- a cell of one state that an earlier one has not
  abbrev pub IsNew : {S : Type 0} → (old new : State S H) → Reached → Type 0
  IsNew old new (Cell n) = (cells_in old ≤ n) × (n < cells_in new)
  IsNew old new _ = ⊥

module _ {S H : Type 0} (rules : Rules S H) where
  -- what is in hand contains this, or a state does, or a module of the engine, or the table in that state: a cell, a script function, a
  -- table of constants
  abbrev pub IsInHand : Contents H → State S H → Reached → Type 0
  IsInHand hand s r = Has rules.natives.holds.of_host (Both (Both hand (of_state s)) (of_offer rules.setting.offer)) r
      ⊎ Contains (rules.natives.holds.of_state s.table) r

  -- each cell among them is one of the store, and each table of constants one of the state's
  abbrev pub IsWithin : Contents H → State S H → Type 0
  IsWithin hand s = (r : Reached) → IsInHand hand s r → IsThere s r

  -- What a call leaves of what it was given in a state: no cell with a bare handle, and no fewer cells. What is in hand then was so before,
  -- or is a cell that was added; and where cells and tables that are there alone were in hand, it is so again. What is around only grows.
  pub record FitsAgain (given : Contents H) (old : State S H) (left : Contents H) (new : State S H) : Type 0 where
    pub sealed : AreSealed new.local.around.cells
    pub grows : cells_in old ≤ cells_in new
    pub around : Around old.local.around new.local.around
    pub only_cells : (r : Reached) → IsInHand left new r → IsInHand given old r ⊎ IsNew old new r
    pub fits : IsWithin given old → IsWithin left new
