-- What every run leaves of a constant among the variables, also where memory runs out.
use Rattle.std.proofs.Common.{inl, inr}
use Rattle.std.specs.Prelude.{◌≡◌, ◌⊎◌, ℕ, true, List, [], Some}
use Rattle.rhai_values.specs.declared.base.value.AccessMode.TheVariants.{ReadOnly}
use Rattle.rhai_values.specs.declared.base.value.Dynamic.{Dynamic}
use Rattle.rhai_state.specs.Scope.{new_entry}
use Rattle.rhai_spots.specs.declared.spot.Spot.{Spot}
use Rattle.rhai_spots.specs.Parts.{value_at}
use Rattle.rhai_machine.specs.machine.Point.{Point, Reaches, after}
use Rattle.rhai_machine.specs.language.Setting.{Rules, cut}
use Rattle.rhai_machine.specs.language.State.{State}
use Rattle.rhai_machine.specs.language.Frames.{Control, Core}
use Rattle.rhai_machine.specs.language.Language.{machine}
use Rattle.rhai_machine.specs.language.Memory.{UpToMemory}
use Rattle.rhai_machine.specs.language.Runs.{at}
use Rattle.rhai_fits.specs.Sealed.{AreSealed, ControlSealed}
use Rattle.rhai_constants.specs.Constants.{IsConstant, HasEntry, replaces, Spares}

-- what a `const` declares is read-only throughout
abbrev pub ConstIsConstant : Type 0 → Type 0
ConstIsConstant H = (name : List ℕ) (v : Dynamic H) → IsConstant (new_entry name ReadOnly v).value

-- what is read-only throughout is so itself, and so is each value in it
pub record ReadOnlyThroughout {H : Type 0} (v : Dynamic H) : Type 0 where
  pub mode : v.mode ≡ ReadOnly
  pub inside : (at : Spot) (u : Dynamic H) → value_at v at ≡ Some u → IsConstant u

-- a constant is read-only throughout
abbrev pub ConstantIsReadOnly : Type 0 → Type 0
ConstantIsReadOnly H = (v : Dynamic H) → IsConstant v → ReadOnlyThroughout v

-- and what is read-only throughout is a constant, whoever made its parts so
abbrev pub ReadOnlyIsConstant : Type 0 → Type 0
ReadOnlyIsConstant H = (v : Dynamic H) → ReadOnlyThroughout v → IsConstant v

module _ {S H : Type 0} (rules : Rules S H) where
  -- one of the machine's own steps from a point to another shares the entry at a place, or writes it by a `let` with an index
  pub record IsReplaced (index : ℕ) (p q : Point S (Core H)) : Type 0 where
    pub point : Point S (Core H)
    pub before : Reaches (machine rules) (cut rules) p point
    pub replaced : replaces index point.core ≡ true
    pub behind : Reaches (machine rules) (cut rules) (after (machine rules) (cut rules) point) q

  -- up to where the machine takes the steps of a run by itself: to its end, or to where memory runs out
  abbrev pub own_end : {p q : Point S (Core H)} → UpToMemory rules p q → Point S (Core H)
  own_end {p} {q} (inl steps) = q
  own_end (inr out) = out.before

  -- Constants stay: a variable that is read-only throughout at the start has the same value at the end, unless this run replaced it. The
  -- control is not about to write it and assigns no handle, and no cell has a bare handle.
  abbrev pub ConstantsStay : Type 0
  ConstantsStay = (index : ℕ) (v : Dynamic H) (c d : Control H) (old new : State S H) → IsConstant v → HasEntry index v old.local →
      Spares index c → ControlSealed c → AreSealed old.local.around.cells → (run : UpToMemory rules (at c [] old) (at d [] new))
      → HasEntry index v new.local ⊎ IsReplaced index (at c [] old) (own_end run)
