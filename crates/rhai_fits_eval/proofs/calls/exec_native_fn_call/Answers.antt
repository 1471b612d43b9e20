use Rattle.std.proofs.Common.{zero}
use Rattle.std.specs.Option.{option_copied}
use Rattle.rhai_eval.specs.States.{under}
use Rattle.rhai_fits_eval.proofs.Places.{native_again}
use Rattle.rhai_fits_eval.proofs.calls.exec_native_fn_call.Goals as goal

pub returns : goal.returns
returns g c = let a = c.args in record {
  fits = λ scope this. native_again (under g.H.Host.name_of a.engine.now g.T.NativeTable.natives) _ _ _ g.met.T.NativeTable.lawful
      c.requires.sealed (c.exec_native_fn_call.ensures.kept scope this).around
      (record { name = a.name.now; token = option_copied a.op_token; at = a.position }) c.exec_native_fn_call.result
      a.first.now c.exec_native_fn_call.new.first.0 a.rest.now zero c.exec_native_fn_call.new.rest a.is_ref_mut
      c.exec_native_fn_call.ensures.rest (c.exec_native_fn_call.ensures.ends scope this);
}
