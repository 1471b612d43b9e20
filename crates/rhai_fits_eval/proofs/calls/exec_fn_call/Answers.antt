use Rattle.std.proofs.Common.{length, true}
use Rattle.std.specs.Option.{option_copied}
use Rattle.rhai_eval.specs.States.{under}
use Rattle.rhai_steps.specs.States.{holding}
use Rattle.rhai_fits_eval.proofs.Places.{lent_again}
use Rattle.rhai_fits_eval.proofs.calls.exec_fn_call.Goals as goal

pub returns : goal.returns
returns g c = let a = c.args in record {
  fits = λ this. lent_again (under g.H.Host.name_of a.engine.now g.T.NativeTable.natives) _ _ _ g.met.T.NativeTable.lawful
      c.requires.sealed (c.exec_fn_call.ensures.kept a.scope.now (holding this)).around
      (record { name = a.name.now; token = option_copied a.op_token; at = a.position }) c.exec_fn_call.result
      a.first.now c.exec_fn_call.new.first.0 a.rest.now (length a.rest.now) c.exec_fn_call.new.rest a.is_method_call true
      c.exec_fn_call.ensures.rest (c.exec_fn_call.ensures.lent a.scope.now this c.requires.lent);
}
