use Rattle.rhai_machine.specs.language.Setting.{over}
use Rattle.rhai_laws.proofs.KeptLaws.{variables_stay}
use Rattle.rhai_laws.proofs.script.script_variables_stay.Goals as goal

pub returns : goal.returns
returns g c = λ setting. variables_stay (over setting g.T.NativeTable.natives)
