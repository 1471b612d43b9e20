use Rattle.rhai_machine.specs.language.Setting.{over}
use Rattle.rhai_machine.proofs.LanguageLaws.{one_end_of_scripts}
use Rattle.rhai_machine.proofs.language.script_has_one_end.Goals as goal

pub returns : goal.returns
returns g c = λ setting. one_end_of_scripts (over setting g.T.NativeTable.natives)
