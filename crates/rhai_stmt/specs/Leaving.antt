-- What a part that ended leads to.
use Rattle.std.specs.Prelude.{Bool, true, false}
use Rattle.rhai_machine.specs.Types.{Dynamic, EvalAltResult, Position}
use Rattle.rhai_errors.specs.declared.error.EvalAltResult.TheVariants as error

module _ {H : Type 0} where
  -- the error by which a `throw` or a `return` ends
  abbrev pub left_with : (throws : Bool) → Dynamic H → Position → EvalAltResult H
  left_with true v at = error.ErrorRuntime v at
  left_with false v at = error.Return v at
