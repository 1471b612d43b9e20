-- An error that is no way out passes a loop and a script's end.
use Rattle.std.proofs.Common.{◌≡◌, Bool, true, false, Err}
use Rattle.rhai_errors.specs.declared.error.EvalAltResult.{EvalAltResult}
use Rattle.rhai_errors.specs.declared.error.EvalAltResult.TheVariants as error
use Rattle.rhai_errors.specs.declared.error.WayOut.TheVariants as way
use Rattle.rhai_errors.specs.Errors.{way_out_of}
use Rattle.rhai_machine.specs.language.Unwinding.{script_ended}
use Rattle.rhai_steps.specs.Loops.{turn_in}

module _ {H : Type 0} where
  -- it passes a loop
  pub passes_loop : (from e : EvalAltResult H) → way.Error e ≡ way_out_of from → Err e ≡ turn_in (Err from)
  passes_loop (error.LoopBreak v true at) e is = cc
  passes_loop (error.LoopBreak v false at) e is = cc
  passes_loop (error.Return v at) e is = cc
  passes_loop (error.Exit v at) e is = cc
  passes_loop from e is = cc

  -- it passes the end of a script
  pub passes_top : (map_exit : Bool) (from e : EvalAltResult H) → way.Error e ≡ way_out_of from → Err e ≡ script_ended map_exit from
  passes_top map_exit (error.Return v at) e is = cc
  passes_top map_exit (error.Exit v at) e is = cc
  passes_top map_exit (error.LoopBreak v is_break at) e is = cc
  passes_top map_exit from e is = cc
