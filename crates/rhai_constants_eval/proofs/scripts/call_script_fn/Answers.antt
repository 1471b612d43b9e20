use Rattle.std.proofs.Common.{false}
use Rattle.std.specs.Option.{option_copied}
use Rattle.rhai_machine.specs.language.Activations.{OwnThis}
use Rattle.rhai_machine.specs.language.Frames.{EnterFunction}
use Rattle.rhai_eval_steps.specs.Bodies.{entered}
use Rattle.rhai_eval.specs.States.{under}
use Rattle.rhai_constants_eval.proofs.Staying.{control_stays}
use Rattle.rhai_constants_eval.proofs.scripts.call_script_fn.Goals as goal

pub returns : goal.returns
returns g c = let a = c.args in record {
  stays = control_stays (under g.H.Host.name_of a.engine.now g.T.NativeTable.natives) g.met.T.NativeTable.lawful _ _ c.requires.sealed
      (EnterFunction
      (entered a.def.now (option_copied a.env) OwnThis false a.rewind_scope a.args.now a.global.now.level a.pos))
      c.call_script_fn.result tt (λ index. tt) c.call_script_fn.ensures.ends;
}
