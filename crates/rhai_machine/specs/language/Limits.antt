-- The error of a refused charge.
use Rattle.std.specs.Prelude.{◌≡◌}
use Rattle.rhai_machine.specs.Types.{Position}
use Rattle.rhai_errors.specs.declared.error.EvalAltResult.TheVariants as error
use Rattle.rhai_machine.specs.language.Frames.{Core, Fail}

-- the error of a refused charge is on its way down
abbrev pub IsRefused : {H : Type 0} → Core H → Type 0
IsRefused c = (at : Position) × (c.control ≡ Fail (error.ErrorTooManyOperations at))
