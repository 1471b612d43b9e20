-- Where memory has run out.
use Rattle.std.specs.Prelude.{◌≡◌, ◌⊎◌}
use Rattle.rhai_machine.specs.Types.{Position}
use Rattle.rhai_errors.specs.declared.error.EvalAltResult.TheVariants as error
use Rattle.rhai_machine.specs.machine.Point.{Point, Reaches}
use Rattle.rhai_machine.specs.machine.Memory.{RunsOut}
use Rattle.rhai_machine.specs.language.Setting.{Rules, cut}
use Rattle.rhai_machine.specs.language.Frames.{Core, Fail}
use Rattle.rhai_machine.specs.language.Language.{machine}

-- the error that memory ran out is on its way down
abbrev pub IsOutOfMemory : {H : Type 0} → Core H → Type 0
IsOutOfMemory c = (at : Position) × (c.control ≡ Fail (error.ErrorOutOfMemory at))

-- the machine comes by itself from one point to the other, or to where memory runs out, and from there it only unwinds
abbrev pub UpToMemory : {S H : Type 0} → Rules S H → Point S (Core H) → Point S (Core H) → Type 0
UpToMemory rules p q = Reaches (machine rules) (cut rules) p q ⊎ RunsOut (machine rules) (cut rules) IsOutOfMemory p q
