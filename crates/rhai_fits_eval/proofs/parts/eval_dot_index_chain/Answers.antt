use Rattle.rhai_eval.specs.States.{under}
use Rattle.rhai_fits_eval.proofs.Starts.{chain_again}
use Rattle.rhai_fits_eval.proofs.parts.eval_dot_index_chain.Goals as goal

pub returns : goal.returns
returns g c = let a = c.args in record {
  fits = chain_again (under g.H.Host.name_of a.engine.now g.T.NativeTable.natives) _ _ _ g.met.T.NativeTable.lawful
      c.requires.sealed c.eval_dot_index_chain.ensures.kept.around
      a.expr.now a.new_val c.eval_dot_index_chain.result c.requires.value c.eval_dot_index_chain.ensures.ends;
}
