use Rattle.rhai_machine.specs.language.Frames.{Exec}
use Rattle.rhai_eval.specs.States.{under}
use Rattle.rhai_fits_eval.proofs.Ends.{control_again}
use Rattle.rhai_fits_eval.proofs.parts.eval_stmt.Goals as goal

pub returns : goal.returns
returns g c = let a = c.args in record {
  fits = control_again (under g.H.Host.name_of a.engine.now g.T.NativeTable.natives) _ _ _ _ g.met.T.NativeTable.lawful
      c.eval_stmt.ensures.kept.around c.requires.sealed
      (Exec a.stmt.now a.rewind_scope) c.eval_stmt.result tt tt c.eval_stmt.ensures.ends;
}
