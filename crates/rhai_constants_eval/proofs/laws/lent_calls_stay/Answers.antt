use Rattle.rhai_machine.specs.language.Setting.{rules_of}
use Rattle.rhai_constants_eval.proofs.Dispatching.{lent_calls_stay}
use Rattle.rhai_constants_eval.proofs.laws.lent_calls_stay.Goals as goal

pub returns : goal.returns
returns g c = λ limits offer.
    lent_calls_stay (rules_of limits g.H.Host.name_of offer g.T.NativeTable.natives) g.met.T.NativeTable.lawful
