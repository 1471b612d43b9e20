-- The errors of the five limits, as they unwind.
use Rattle.std.specs.Prelude.{◌≡◌, ℕ, Bool, true}
use Rattle.rhai_tree.specs.declared.position.Position.{Position}
use Rattle.rhai_errors.specs.declared.error.EvalAltResult.{EvalAltResult}
use Rattle.rhai_errors.specs.Errors.{at_position, is_limit}
use Rattle.rhai_machine.specs.machine.Machine.{Config, Run}
use Rattle.rhai_machine.specs.machine.Unwinding.{Unwound}
use Rattle.rhai_machine.specs.language.Setting.{Rules}
use Rattle.rhai_machine.specs.language.Frames.{Core, Fail}
use Rattle.rhai_machine.specs.language.Language.{machine}

-- an error is on its way down, wherever it stands
abbrev pub IsOnItsWay : {H : Type 0} → EvalAltResult H → Core H → Type 0
IsOnItsWay e c = (at : Position) × (c.control ≡ Fail (at_position at e))

-- the error of a limit stays on its way: the run ends with it, and with table, count and calls as they were
abbrev pub LimitsOnlyUnwind : {S H : Type 0} → Rules S H → Type 0
LimitsOnlyUnwind {S} {H} rules = (e : EvalAltResult H) → is_limit e ≡ true → (allows : ℕ → Bool) (c a : Config S H (Core H)) →
    IsOnItsWay e c.core → Run (machine rules) allows c a → Unwound (IsOnItsWay e) c a
