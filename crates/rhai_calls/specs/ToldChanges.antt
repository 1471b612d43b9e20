-- Results that say whether a native may have changed its first argument.
use Rattle.std.specs.Prelude.{Bool, true, false, Option, Some, Result, Ok, Err}
use Rattle.rhai_values.specs.declared.base.value.Dynamic.{Dynamic}
use Rattle.rhai_errors.specs.declared.error.EvalAltResult.{EvalAltResult}
use Rattle.rhai_errors.specs.Native.{Reply, Gives}

module _ {H : Type 0} where
  -- a result that tells, too, whether the call changed its first argument
  abbrev pub with_changed : (changed : Bool) → Result (Dynamic H) (EvalAltResult H) → Result (Dynamic H × Bool) (EvalAltResult H)
  with_changed changed (Ok v) = Ok (v, changed)
  with_changed changed (Err e) = Err e

  -- a result that no longer tells whether the call changed its first argument
  abbrev pub without_changed : Result (Dynamic H × Bool) (EvalAltResult H) → Result (Dynamic H) (EvalAltResult H)
  without_changed (Ok (v, changed)) = Ok v
  without_changed (Err e) = Err e

  -- it was a native that gave the value, and no built-in
  abbrev pub gives : Option (Reply H) → Bool
  gives (Some (Gives v)) = true
  gives _ = false
