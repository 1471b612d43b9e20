use Rattle.rhai_eval.specs.States.{under}
use Rattle.rhai_fits_eval.proofs.Starts.{script_again}
use Rattle.rhai_fits_eval.proofs.scripts.eval_global_statements.Goals as goal

pub returns : goal.returns
returns g c = let a = c.args in record {
  fits = script_again (under g.H.Host.name_of a.engine.now g.T.NativeTable.natives) _ _ _ g.met.T.NativeTable.lawful
      c.requires.sealed c.eval_global_statements.ensures.kept.around
      a.tree.now.0 a.map_exit_to_return_value c.eval_global_statements.result c.eval_global_statements.ensures.up_to;
}
