use Rattle.rhai_machine.specs.language.Setting.{rules_of}
use Rattle.rhai_fits_eval.proofs.Missing.{parts_fit}
use Rattle.rhai_fits_eval.proofs.laws.parts_fit.Goals as goal

pub returns : goal.returns
returns g c = λ limits offer.
    parts_fit (rules_of limits g.H.Host.name_of offer g.T.NativeTable.natives) _ g.met.T.NativeTable.lawful
