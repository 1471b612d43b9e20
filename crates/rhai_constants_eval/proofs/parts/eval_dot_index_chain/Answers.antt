use Rattle.rhai_eval.specs.Chains.{assigned_in, whole_chain}
use Rattle.rhai_eval.specs.States.{under}
use Rattle.rhai_fits_eval.proofs.Starts.{assigned_sealed}
use Rattle.rhai_constants_eval.proofs.Staying.{control_stays}
use Rattle.rhai_constants_eval.proofs.parts.eval_dot_index_chain.Goals as goal

pub returns : goal.returns
returns g c = let a = c.args in record {
  stays = control_stays (under g.H.Host.name_of a.engine.now g.T.NativeTable.natives) g.met.T.NativeTable.lawful _ _ c.requires.sealed
      (whole_chain a.expr.now (assigned_in a.new_val)) c.eval_dot_index_chain.result (assigned_sealed a.new_val c.requires.value)
      (λ index. tt) c.eval_dot_index_chain.ensures.ends;
}
