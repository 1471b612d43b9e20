use Rattle.rhai_places.proofs.PartLemmas.{goes_back, is_refused, is_some}
use Rattle.rhai_places.proofs.put.put_part.Goals as goal

pub returns : goal.returns
returns g c = record {
  ok = goes_back c.args.source.now c.args.spot c.args.part.now c.requires c.put_there.result c.put_there.new.source c.put_there.ensures.ok;
  err = c.put_there.ensures.err;
  refused = is_refused c.args.source.now c.args.spot c.args.part.now c.requires g.H.Host.name_of c.args.position c.put_there.result
      c.put_there.ensures.refused;
  memory = λ some of_text. c.put_there.ensures.memory (is_some c.args.source.now c.args.spot c.args.part.now c.requires some) of_text;
}
