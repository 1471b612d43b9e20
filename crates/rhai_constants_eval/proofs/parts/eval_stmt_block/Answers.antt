use Rattle.rhai_machine.specs.language.Frames.{Enter}
use Rattle.rhai_eval.specs.States.{under}
use Rattle.rhai_constants_eval.proofs.Staying.{control_stays}
use Rattle.rhai_constants_eval.proofs.parts.eval_stmt_block.Goals as goal

pub returns : goal.returns
returns g c = let a = c.args in record {
  stays = control_stays (under g.H.Host.name_of a.engine.now g.T.NativeTable.natives) g.met.T.NativeTable.lawful _ _ c.requires.sealed
      (Enter a.statements.now a.restore_orig_state) c.eval_stmt_block.result tt (λ index. tt) c.eval_stmt_block.ensures.ends;
}
