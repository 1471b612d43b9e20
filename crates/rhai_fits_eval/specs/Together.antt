-- That a state and a scope fit together again behind a call, in the words of `GlobalRuntimeState::fits`.
use Rattle.std.specs.Prelude.{◌⊎◌, Option, None, Contains}
use Rattle.rhai_values.specs.declared.base.value.Dynamic.{Dynamic}
use Rattle.rhai_values.specs.Cells.{cells_of}
use Rattle.rhai_state.specs.declared.scope.Scope.{Scope}
use Rattle.rhai_state.specs.declared.state.GlobalRuntimeState.{GlobalRuntimeState}
use Rattle.rhai_state.specs.Fitting.{FitsTogether}
use Rattle.rhai_state.specs.Reached.{nothing}
use Rattle.rhai_values.specs.ValueContents.{Reached}
use Rattle.rhai_machine.specs.language.Setting.{Rules}
use Rattle.rhai_fits.specs.Contents.{Contents, Both, of_maybe, of_offer, Has}
use Rattle.rhai_fits.specs.Sealed.{AreSealed}
use Rattle.rhai_steps.specs.Callers.{state_of}
use Rattle.rhai_steps.specs.States.{holding}
use Rattle.rhai_fits_eval.specs.InHand.{of_state, IsThere, FitsAgain}

-- where a state and a scope fit together no cell has a bare handle, as the laws of calls ask
abbrev pub FitsIsSealed : Type 0 → Type 0
FitsIsSealed H = (global : GlobalRuntimeState H) (scope : Scope H) → FitsTogether global scope → AreSealed (cells_of global.cells)

module _ {S H : Type 0} (rules : Rules S H) where
  -- What `fits` does not look at is there: what was given and `this`, what the engine's modules have, what the table's state has, and what
  -- the host's values hold that state and scope have.
  pub record AreOthersThere (given : Contents H) (table : S) (global : GlobalRuntimeState H) (scope : Scope H) (this : Option (Dynamic H)) :
      Type 0 where
    pub given_there : (r : Reached) → Has rules.natives.holds.of_host (Both given (Both (of_maybe this) (of_offer rules.setting.offer))) r →
        IsThere (state_of table global scope (holding this)) r
    pub table_there : (r : Reached) → Contains (rules.natives.holds.of_state table) r →
        IsThere (state_of table global scope (holding this)) r
    pub hosts_there : (r : Reached) → Has rules.natives.holds.of_host (of_state (state_of table global scope (holding None))) r →
        Has nothing (of_state (state_of table global scope (holding None))) r ⊎ IsThere (state_of table global scope (holding this)) r

  -- A call that keeps what is in hand leaves a state and a scope that fit together where they did before it, and all else was there; and
  -- all else is there again.
  abbrev pub FitsTogetherAgain : Type 0
  FitsTogetherAgain = (given left : Contents H) (table table' : S) (global global' : GlobalRuntimeState H) (scope scope' : Scope H)
      (this this' : Option (Dynamic H)) →
      FitsAgain rules given (state_of table global scope (holding this)) left (state_of table' global' scope' (holding this')) →
      FitsTogether global scope → AreOthersThere given table global scope this →
      FitsTogether global' scope' × AreOthersThere left table' global' scope' this'
