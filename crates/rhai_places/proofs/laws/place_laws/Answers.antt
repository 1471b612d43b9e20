use Rattle.rhai_places.proofs.PlaceLemmas.{written, stays}
use Rattle.rhai_places.proofs.laws.place_laws.Goals as goal

pub returns : goal.returns
returns g c = record { written = written; stays = stays }
