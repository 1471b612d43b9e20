-- What every run keeps of what it has, also where memory runs out.
use Rattle.std.specs.Prelude.{◌⊎◌, ◌<◌, ◌≤◌, ℕ, [], length}
use Rattle.rhai_values.specs.ValueContents.{Reached, Cell}
use Rattle.rhai_machine.specs.machine.Point.{Point}
use Rattle.rhai_machine.specs.language.Setting.{Rules, cut}
use Rattle.rhai_machine.specs.language.Frames.{Control, Core}
use Rattle.rhai_machine.specs.language.Runs.{at, Steps}
use Rattle.rhai_machine.specs.language.State.{State}
use Rattle.rhai_machine.specs.machine.Memory.{Leads}
use Rattle.rhai_machine.specs.language.Language.{machine}
use Rattle.rhai_fits.specs.Contents.{HasAt}
use Rattle.rhai_fits.specs.Sealed.{AreSealed, ControlSealed, Sealed}

-- how many cells there are at a point
abbrev pub count_of_cells : {S H : Type 0} → Point S (Core H) → ℕ
count_of_cells p = length p.core.local.around.cells

-- a cell that was added since
abbrev pub IsAdded : {S H : Type 0} → (p q : Point S (Core H)) → Reached → Type 0
IsAdded p q (Cell n) = (count_of_cells p ≤ n) × (n < count_of_cells q)
IsAdded p q _ = ⊥

module _ {S H : Type 0} (rules : Rules S H) where
  -- What a run leaves: no cell with a bare handle, no fewer cells, and of cells, script functions and tables of constants none but what it
  -- had before, in the engine's modules too, and cells added since.
  pub record Keeps (p q : Point S (Core H)) : Type 0 where
    pub sealed : Sealed q.core
    pub grows : count_of_cells p ≤ count_of_cells q
    pub only_cells : (r : Reached) → HasAt rules q r → HasAt rules p r ⊎ IsAdded p q r

  -- every run from a sealed core keeps this
  abbrev pub RunsKeep : Type 0
  RunsKeep = (p q : Point S (Core H)) → Sealed p.core → Leads (machine rules) (cut rules) p q → Keeps p q

  -- the same of what an evaluator tells: a control with nothing below it, which assigns no handle, over a store that has none
  abbrev pub StepsKeep : Type 0
  StepsKeep = (c d : Control H) (old new : State S H) → ControlSealed c → AreSealed old.local.around.cells → Steps rules c old d new →
      Keeps (at c [] old) (at d [] new)

  -- a point that fits: no cell has a bare handle, nor will get one, and each cell that the run has is one of the store
  pub record IsFitting (p : Point S (Core H)) : Type 0 where
    pub sealed : Sealed p.core
    pub within : (n : ℕ) → HasAt rules p (Cell n) → n < count_of_cells p

  -- every run from a point that fits comes to points that fit
  abbrev pub RunsFit : Type 0
  RunsFit = (p q : Point S (Core H)) → IsFitting p → Leads (machine rules) (cut rules) p q → IsFitting q
