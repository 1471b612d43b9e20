use Rattle.rhai_machine.specs.language.Frames.{Enter}
use Rattle.rhai_eval.specs.States.{under}
use Rattle.rhai_fits_eval.proofs.Ends.{control_again}
use Rattle.rhai_fits_eval.proofs.parts.eval_stmt_block.Goals as goal

pub returns : goal.returns
returns g c = let a = c.args in record {
  fits = control_again (under g.H.Host.name_of a.engine.now g.T.NativeTable.natives) _ _ _ _ g.met.T.NativeTable.lawful
      c.eval_stmt_block.ensures.kept.around c.requires.sealed
      (Enter a.statements.now a.restore_orig_state) c.eval_stmt_block.result tt tt c.eval_stmt_block.ensures.ends;
}
