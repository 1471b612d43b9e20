use Rattle.rhai_places.proofs.PathLemmas.{written, stays, goes_back}
use Rattle.rhai_places.proofs.laws.path_laws.Goals as goal

pub returns : goal.returns
returns g c = record { written = written; stays = stays; goes_back = goes_back }
