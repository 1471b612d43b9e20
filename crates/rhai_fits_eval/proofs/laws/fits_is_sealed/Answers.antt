use Rattle.rhai_fits_eval.proofs.Together.{fits_is_sealed}
use Rattle.rhai_fits_eval.proofs.laws.fits_is_sealed.Goals as goal

pub returns : goal.returns
returns g c = fits_is_sealed
