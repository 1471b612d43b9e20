use Rattle.std.proofs.Common.{Some, false, refl, true}
use Rattle.std.specs.Option.{option_copied}
use Rattle.rhai_eval.specs.Places.{by_name}
use Rattle.rhai_eval.specs.States.{under}
use Rattle.rhai_constants_eval.proofs.Dispatching.{by_value_stays}
use Rattle.rhai_constants_eval.proofs.calls.exec_fn_call_by_value.Goals as goal

pub returns : goal.returns
returns g c = let a = c.args in record {
  stays = λ held. by_value_stays (under g.H.Host.name_of a.engine.now g.T.NativeTable.natives) g.met.T.NativeTable.lawful _ _
      c.requires.sealed
      (record { name = a.name.now; token = option_copied a.op_token; at = a.position }) a.rest.now c.exec_fn_call.result
      (by_name false true) (Some a.first.now) (c.exec_fn_call.ensures.by_value a.scope.now held refl);
}
