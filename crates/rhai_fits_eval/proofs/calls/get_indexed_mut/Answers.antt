use Rattle.rhai_steps.specs.States.{holding}
use Rattle.rhai_eval.specs.Indexing.{access}
use Rattle.rhai_eval.specs.States.{limits_of, under}
use Rattle.rhai_fits_eval.proofs.Indexes.{index_again}
use Rattle.rhai_fits_eval.proofs.calls.get_indexed_mut.Goals as goal

pub returns : goal.returns
returns g c = let a = c.args in let call = c.get_indexed_mut in record {
  fits = λ scope this. index_again (under g.H.Host.name_of a.engine.now g.T.NativeTable.natives) (limits_of a.engine.now)
      g.H.Host.name_of g.T.NativeTable.state (access a.engine.now a.idx_pos a.op_pos a.add_if_not_found) a.use_indexers a.global.now
      a.table.now a.target.now a.idx.now call.new.global call.new.table call.new.idx call.result g.met.T.NativeTable.lawful
      c.requires.object c.requires.sealed call.ensures.indexes scope (holding this);
}
