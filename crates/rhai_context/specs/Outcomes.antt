-- How the body of a loop ended, from what stands in the run.
use Rattle.std.specs.Prelude.{Option, Result, Ok, Err}
use Rattle.rhai_values.specs.declared.base.value.Dynamic.{Dynamic}
use Rattle.rhai_errors.specs.declared.error.EvalAltResult.{EvalAltResult}
use Rattle.rhai_steps.specs.declared.loops.BodyEnd.{BodyEnd}
use Rattle.rhai_steps.specs.declared.loops.BodyEnd.TheVariants as body
use Rattle.rhai_context.specs.declared.outcomes.BodyWay.{BodyWay}
use Rattle.rhai_context.specs.declared.outcomes.BodyWay.TheVariants as way
use Rattle.rhai_context.specs.Ends.{error_in}

-- the value of a `break` and an error that passes stand there
abbrev pub ended_by : {H : Type 0} → BodyWay → Dynamic H → Option (EvalAltResult H) → Result (BodyEnd H) (EvalAltResult H)
ended_by way.Done v e = Ok body.Done
ended_by way.Continue v e = Ok body.Continue
ended_by way.Break v e = Ok (body.Break v)
ended_by way.Stopped v e = Err (error_in e)
