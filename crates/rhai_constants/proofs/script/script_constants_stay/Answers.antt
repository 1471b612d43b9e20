use Rattle.rhai_machine.specs.language.Setting.{rules_of}
use Rattle.rhai_constants.proofs.Runs.{constants_stay}
use Rattle.rhai_constants.proofs.script.script_constants_stay.Goals as goal

pub returns : goal.returns
returns g c = λ limits offer.
    constants_stay (rules_of limits g.H.Host.name_of offer g.T.NativeTable.natives) g.met.T.NativeTable.lawful
