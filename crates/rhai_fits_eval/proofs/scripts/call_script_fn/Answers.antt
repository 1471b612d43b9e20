use Rattle.std.proofs.Common.{false, true}
use Rattle.std.specs.Option.{option_copied}
use Rattle.rhai_machine.specs.language.Activations.{OwnThis}
use Rattle.rhai_eval_steps.specs.Bodies.{entered}
use Rattle.rhai_eval.specs.States.{under}
use Rattle.rhai_fits_eval.proofs.Starts.{arguments_again, entered_again}
use Rattle.rhai_fits_eval.proofs.scripts.call_script_fn.Goals as goal

pub returns-clause-fits : goal.returns-clause-fits
returns-clause-fits g c = let a = c.args in
    entered_again (under g.H.Host.name_of a.engine.now g.T.NativeTable.natives) _ _ _ g.met.T.NativeTable.lawful
    c.requires.sealed c.call_script_fn.ensures.kept.around
    (entered a.def.now (option_copied a.env) OwnThis false a.rewind_scope a.args.now a.global.now.level a.pos)
    c.call_script_fn.result c.call_script_fn.ensures.ends

pub returns-clause-args : goal.returns-clause-args
returns-clause-args g c =
    let a = c.args in
    arguments_again (under g.H.Host.name_of a.engine.now g.T.NativeTable.natives) _ _ _ g.met.T.NativeTable.lawful
    c.requires.sealed c.call_script_fn.ensures.kept.around
    (entered a.def.now (option_copied a.env) OwnThis false a.rewind_scope a.args.now a.global.now.level a.pos)
    c.call_script_fn.result c.call_script_fn.ensures.ends true c.call_script_fn.ensures.taken.0 c.call_script_fn.new.args
    c.call_script_fn.ensures.taken.1
