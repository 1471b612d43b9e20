-- What the evaluator asks of a value.
use Rattle.std.specs.Prelude.{Bool, true, false, Result, Ok, Err}
use Rattle.rhai_values.specs.declared.base.value.Dynamic.{Dynamic}
use Rattle.rhai_values.specs.declared.base.value.Union.{Union}
use Rattle.rhai_values.specs.declared.base.value.Union.TheVariants as value
use Rattle.rhai_errors.specs.declared.error.EvalAltResult.{EvalAltResult}

module _ {H : Type 0} where
  -- whether a value is `()`
  abbrev pub is_unit_union : Union H → Bool
  is_unit_union value.Unit = true
  is_unit_union _ = false

  -- whether the value that is seen is `()`
  abbrev pub unit_seen : Result (Dynamic H) (EvalAltResult H) → Result Bool (EvalAltResult H)
  unit_seen (Ok v) = Ok (is_unit_union v.value)
  unit_seen (Err e) = Err e
