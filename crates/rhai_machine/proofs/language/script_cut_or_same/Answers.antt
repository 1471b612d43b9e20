use Rattle.rhai_machine.specs.language.Setting.{over}
use Rattle.rhai_machine.proofs.LanguageLaws.{cut_or_same}
use Rattle.rhai_machine.proofs.language.script_cut_or_same.Goals as goal

pub returns : goal.returns
returns g c = λ setting. cut_or_same (over setting g.T.NativeTable.natives)
