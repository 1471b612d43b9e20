use Rattle.rhai_machine.specs.language.Setting.{rules_of}
use Rattle.rhai_fits_eval.proofs.Together.{fits_together_again}
use Rattle.rhai_fits_eval.proofs.laws.fits_together_again.Goals as goal

pub returns : goal.returns
returns g c = λ limits offer. fits_together_again (rules_of limits g.H.Host.name_of offer g.T.NativeTable.natives)
