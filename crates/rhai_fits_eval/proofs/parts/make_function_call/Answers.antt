use Rattle.std.specs.Option.{option_copied}
use Rattle.rhai_call_forms.specs.Leading.{all_args}
use Rattle.rhai_eval.specs.States.{under}
use Rattle.rhai_fits_eval.proofs.Starts.{called_again}
use Rattle.rhai_fits_eval.proofs.parts.make_function_call.Goals as goal

pub returns : goal.returns
returns g c = let a = c.args in record {
  fits = called_again (under g.H.Host.name_of a.engine.now g.T.NativeTable.natives) _ _ _ g.met.T.NativeTable.lawful
      c.requires.sealed c.make_function_call.ensures.kept.around
      (record { name = a.fn_name.now; token = option_copied a.op_token; at = a.pos })
      (all_args (option_copied a.first_arg) a.args_expr.now) a.capture_parent_scope c.make_function_call.result
      c.make_function_call.ensures.ends;
}
