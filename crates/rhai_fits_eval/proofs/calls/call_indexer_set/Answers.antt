use Rattle.rhai_eval.specs.States.{under}
use Rattle.rhai_fits_eval.proofs.Places.{set_again}
use Rattle.rhai_fits_eval.proofs.calls.call_indexer_set.Goals as goal

pub returns : goal.returns
returns g c = let a = c.args in record {
  fits = λ scope this. set_again (under g.H.Host.name_of a.engine.now g.T.NativeTable.natives) _ _ _ g.met.T.NativeTable.lawful
      c.requires.sealed (c.call_indexer_set.ensures.kept scope this).around
      a.pos a.object.now c.call_indexer_set.new.object a.index.now c.call_indexer_set.new.index
      c.call_indexer_set.ensures.index a.is_ref_mut a.new_val.now c.call_indexer_set.new.new_val c.call_indexer_set.ensures.new_val
      c.call_indexer_set.result (c.call_indexer_set.ensures.ends scope this);
}
