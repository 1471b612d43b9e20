use Rattle.rhai_eval.specs.States.{under}
use Rattle.rhai_constants_eval.proofs.Staying.{script_stays}
use Rattle.rhai_constants_eval.proofs.scripts.eval_global_statements.Goals as goal

pub returns : goal.returns
returns g c = let a = c.args in record {
  stays = script_stays (under g.H.Host.name_of a.engine.now g.T.NativeTable.natives) g.met.T.NativeTable.lawful _ _ c.requires.sealed
      a.tree.now.0 a.map_exit_to_return_value c.eval_global_statements.result c.eval_global_statements.ensures.up_to;
}
