use Rattle.rhai_eval.specs.States.{under}
use Rattle.rhai_fits_eval.proofs.Places.{get_again}
use Rattle.rhai_fits_eval.proofs.calls.call_indexer_get.Goals as goal

pub returns : goal.returns
returns g c = let a = c.args in record {
  fits = λ scope this. get_again (under g.H.Host.name_of a.engine.now g.T.NativeTable.natives) _ _ _ g.met.T.NativeTable.lawful
      c.requires.sealed (c.call_indexer_get.ensures.kept scope this).around
      a.pos a.object.now c.call_indexer_get.new.object a.index.now c.call_indexer_get.new.index
      c.call_indexer_get.ensures.index c.call_indexer_get.result (c.call_indexer_get.ensures.ends scope this);
}
