-- What a public call leaves of the constants among its caller's variables, also where memory runs out.
use Rattle.std.specs.Prelude.{◌⊎◌, ℕ, Bool, false, List, [], ◌∷◌, Result}
use Rattle.rhai_tree.specs.declared.expr.Stmt.{Stmt}
use Rattle.rhai_values.specs.declared.base.value.Dynamic.{Dynamic}
use Rattle.rhai_errors.specs.declared.error.EvalAltResult.{EvalAltResult}
use Rattle.rhai_machine.specs.language.Setting.{Rules}
use Rattle.rhai_machine.specs.language.State.{Local, State}
use Rattle.rhai_machine.specs.language.Frames.{Control, Frame, Core, core, ended, ended_or_changed, Enter, Top}
use Rattle.rhai_machine.specs.language.Memory.{UpToMemory}
use Rattle.rhai_machine.specs.language.Runs.{at, with_core}
use Rattle.rhai_constants.specs.Constants.{IsConstant, HasEntry}
use Rattle.rhai_constants.specs.Laws.{IsReplaced, own_end}

-- a script begins with its statements, in a list that does not restore, over the frame of its end
abbrev pub script : {H : Type 0} → List Stmt → (map_exit : Bool) → List (Frame H) → Local H → Core H
script statements map_exit k l = core (Enter statements false) (Top map_exit ∷ k) l

module _ {S H : Type 0} (rules : Rules S H) where
  -- The machine runs from where a call begins to how it ended, by itself or up to where memory ran out. A variable that was read-only
  -- throughout before the call has the same value behind it, unless that run replaced it.
  pub record Stays (begins : List (Frame H) → Local H → Core H) (old : State S H) (end : Control H) (new : State S H) : Type 0 where
    pub run : UpToMemory rules (with_core (begins [] old.local) old) (at end [] new)
    pub constants : (index : ℕ) (v : Dynamic H) → IsConstant v → HasEntry index v old.local →
        HasEntry index v new.local ⊎ IsReplaced rules index (with_core (begins [] old.local) old) (own_end rules run)

  -- from where a call begins to its value or error
  abbrev pub StaysFrom : (begins : List (Frame H) → Local H → Core H) → State S H → Result (Dynamic H) (EvalAltResult H) → State S H →
      Type 0
  StaysFrom begins old result new = Stays begins old (ended result) new

  -- from a control
  abbrev pub StaysAs : Control H → State S H → Result (Dynamic H) (EvalAltResult H) → State S H → Type 0
  StaysAs c old result new = StaysFrom (λ k l. core c k l) old result new

  -- from where a call begins to its error, or its value with whether the first argument may have changed
  abbrev pub StaysChanged : (begins : List (Frame H) → Local H → Core H) → State S H → Result (Dynamic H × Bool) (EvalAltResult H) →
      State S H → Type 0
  StaysChanged begins old result new = Stays begins old (ended_or_changed result) new
