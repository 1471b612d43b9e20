use Rattle.rhai_machine.specs.language.Setting.{rules_of}
use Rattle.rhai_twins_eval.proofs.Asking.{indexer_is_asked}
use Rattle.rhai_twins_eval.proofs.indexers.indexer_is_asked.Goals as goal

pub returns : goal.returns
returns g c = λ limits offer.
    indexer_is_asked (rules_of limits g.H.Host.name_of offer g.T.NativeTable.natives) g.met.T.NativeTable.lawful
