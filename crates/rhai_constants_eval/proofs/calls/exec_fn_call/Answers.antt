use Rattle.std.proofs.Common.{Some, true}
use Rattle.std.specs.Option.{option_copied}
use Rattle.rhai_eval.specs.Places.{by_name}
use Rattle.rhai_eval.specs.States.{under}
use Rattle.rhai_constants_eval.proofs.Dispatching.{lent_stays}
use Rattle.rhai_constants_eval.proofs.calls.exec_fn_call.Goals as goal

pub returns : goal.returns
returns g c = let a = c.args in record {
  stays = λ this. lent_stays (under g.H.Host.name_of a.engine.now g.T.NativeTable.natives) g.met.T.NativeTable.lawful _ _ c.requires.sealed
      (record { name = a.name.now; token = option_copied a.op_token; at = a.position }) a.rest.now c.exec_fn_call.result
      (by_name a.is_method_call true) (Some a.first.now) (c.exec_fn_call.ensures.lent a.scope.now this c.requires.lent);
}
