use Rattle.std.proofs.Common.{◌≡◌, length, refl, true}
use Rattle.std.specs.Option.{option_copied}
use Rattle.rhai_machine.specs.language.Values.{unit_value}
use Rattle.rhai_eval.specs.States.{under}
use Rattle.rhai_steps.specs.States.{holding}
use Rattle.rhai_fits_eval.proofs.Places.{by_value_again}
use Rattle.rhai_fits_eval.proofs.calls.exec_fn_call_by_value.Goals as goal

pub returns : goal.returns
returns g c = let a = c.args in
    let taken : c.exec_fn_call.new.first.0 ≡ unit_value = let told = c.exec_fn_call.ensures.taken refl in cc in
    record {
      fits = λ this. by_value_again (under g.H.Host.name_of a.engine.now g.T.NativeTable.natives) _ _ _ g.met.T.NativeTable.lawful
          c.requires.sealed (c.exec_fn_call.ensures.kept a.scope.now (holding this)).around
          (record { name = a.name.now; token = option_copied a.op_token; at = a.position }) c.exec_fn_call.result
          a.first.now c.exec_fn_call.new.first.0 a.rest.now (length a.rest.now) c.exec_fn_call.new.rest true taken
          c.exec_fn_call.ensures.rest (c.exec_fn_call.ensures.by_value a.scope.now (holding this) refl);
    }
