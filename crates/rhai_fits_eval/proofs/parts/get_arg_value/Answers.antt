use Rattle.rhai_machine.specs.language.Frames.{Argument}
use Rattle.rhai_eval.specs.ArgumentValues.{value_with}
use Rattle.rhai_eval.specs.States.{under}
use Rattle.rhai_fits_eval.proofs.Ends.{control_again}
use Rattle.rhai_fits_eval.proofs.parts.get_arg_value.Goals as goal

pub returns : goal.returns
returns g c = let a = c.args in record {
  fits = control_again (under g.H.Host.name_of a.engine.now g.T.NativeTable.natives) _ _ _ _ g.met.T.NativeTable.lawful
      c.get_arg_value.ensures.kept.around c.requires.sealed
      (Argument a.arg_expr.now) (value_with c.get_arg_value.result) tt tt c.get_arg_value.ensures.ends;
}
