use Rattle.rhai_machine.specs.language.Frames.{Exec}
use Rattle.rhai_eval.specs.States.{under}
use Rattle.rhai_constants_eval.proofs.Staying.{control_stays}
use Rattle.rhai_constants_eval.proofs.parts.eval_stmt.Goals as goal

pub returns : goal.returns
returns g c = let a = c.args in record {
  stays = control_stays (under g.H.Host.name_of a.engine.now g.T.NativeTable.natives) g.met.T.NativeTable.lawful _ _ c.requires.sealed
      (Exec a.stmt.now a.rewind_scope) c.eval_stmt.result tt (λ index. tt) c.eval_stmt.ensures.ends;
}
