-- What limits change in a step: nothing, but that it may fail with the error of one.
use Rattle.std.specs.Prelude.{◌≡◌, ◌⊎◌, ⊤, Bool, true, Option}
use Rattle.rhai_machine.specs.Types.{Dynamic, EvalAltResult, Limits}
use Rattle.rhai_errors.specs.Errors.{is_limit}
use Rattle.rhai_errors.specs.Native.{Reply}
use Rattle.rhai_machine.specs.machine.Machine.{Move, Halt, Go, Charge, Native, AskPure}
use Rattle.rhai_machine.specs.language.Setting.{Setting}
use Rattle.rhai_machine.specs.language.Frames.{Core, Fail}
use Rattle.rhai_machine.specs.language.Language.{move}

module _ {H : Type 0} where
  -- the error of a limit is on its way down
  abbrev pub IsLimited : Core H → Type 0
  IsLimited c = (e : EvalAltResult H) × (c.control ≡ Fail e) × (is_limit e ≡ true)

  -- two cores are one, or one of them has met a limit
  abbrev pub SameOrLimited : Core H → Core H → Type 0
  SameOrLimited c d = (c ≡ d) ⊎ (IsLimited c ⊎ IsLimited d)

  -- two moves are of one kind, charge at one position and ask the table for one thing, and what they come to is one, or has met a limit
  abbrev pub SameMove : Move H (Core H) → Move H (Core H) → Type 0
  SameMove Halt Halt = ⊤
  SameMove (Go c) (Go d) = SameOrLimited c d
  SameMove (Charge at c) (Charge pos d) = (at ≡ pos) × SameOrLimited c d
  SameMove (Native q f) (Native r g) =
      (q ≡ r) × ((reply : Reply H) (left : Option (Dynamic H)) → SameOrLimited (f reply left) (g reply left))
  SameMove (AskPure p f) (AskPure q g) = (p ≡ q) × ((pure : Bool) → SameOrLimited (f pure) (g pure))
  SameMove _ _ = ⊥

-- Limits show in a step as an error alone: under other limits the step is the same, or under one of the two it fails with a limit's error.
-- So no rule goes on in another way where a limit is met. Of the limit of operations no rule knows.
abbrev pub LimitsOnlyFail : {H : Type 0} → Setting H → Type 0
LimitsOnlyFail {H} s = (limits : Limits) (c : Core H) → SameMove (move s c) (move (record s { limits = limits }) c)
