-- What stands in errors: handles of cells, script functions, and the numbers of tables of constants.
use Rattle.std.specs.Prelude.{List, []}
use Rattle.rhai_values.specs.ValueContents.{Reached, contents_of}
use Rattle.rhai_errors.specs.declared.error.EvalAltResult.{EvalAltResult}
use Rattle.rhai_errors.specs.declared.error.EvalAltResult.TheOpen as error
use Rattle.rhai_errors.specs.declared.error.EvalAltResult.TheFolds.{fold-EvalAltResult}

-- `own` says what stands in a value of the host's own type
module _ {H : Type 0} (own : H → List Reached) where
  -- one level of an error: what stands in its value, or in the error inside it
  abbrev pub in_error : error.EvalAltResult-F H (List Reached) (List Reached) → List Reached
  in_error (error.ErrorInFunctionCall call at) = call
  in_error (error.ErrorRuntime value at) = contents_of own value
  in_error (error.Exit value at) = contents_of own value
  in_error (error.Return value at) = contents_of own value
  in_error (error.LoopBreak value is_break at) = contents_of own value
  in_error _ = []

  -- what stands in an error, and in the errors inside it
  abbrev pub error_contents : EvalAltResult H → List Reached
  error_contents = fold-EvalAltResult H (List Reached) (List Reached) in_error (λ call. call.error)
