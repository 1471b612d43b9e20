use Rattle.rhai_machine.specs.language.Setting.{over}
use Rattle.rhai_laws.proofs.KeptLaws.{names_stay}
use Rattle.rhai_laws.proofs.script.script_names_stay.Goals as goal

pub returns : goal.returns
returns g c = λ setting. names_stay (over setting g.T.NativeTable.natives)
