-- What comes of the indexer that is tried for a property.
use Rattle.std.specs.Prelude.{Bool, true, false, Result, Ok, Err}
use Rattle.rhai_values.specs.declared.base.value.Dynamic.{Dynamic}
use Rattle.rhai_errors.specs.declared.error.EvalAltResult.{EvalAltResult}
use Rattle.rhai_machine.specs.language.Members.{lacks_indexer}
use Rattle.rhai_calls.specs.ToldChanges.{with_changed}

module _ {H : Type 0} where
  -- what comes of an indexer that failed: where it is missing something stands for it, and else its error does
  abbrev pub tried_by : (lacks : Bool) → EvalAltResult H → (otherwise : Result (Dynamic H) (EvalAltResult H)) →
      Result (Dynamic H × Bool) (EvalAltResult H)
  tried_by true e otherwise = with_changed false otherwise
  tried_by false e otherwise = Err e

  -- what comes of the indexer: its answer, or what stands for it where it is missing
  abbrev pub tried : Result (Dynamic H × Bool) (EvalAltResult H) → (otherwise : Result (Dynamic H) (EvalAltResult H)) →
      Result (Dynamic H × Bool) (EvalAltResult H)
  tried (Ok answer) otherwise = Ok answer
  tried (Err e) otherwise = tried_by (lacks_indexer e) e otherwise
