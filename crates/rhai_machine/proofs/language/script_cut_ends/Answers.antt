use Rattle.rhai_machine.specs.language.Setting.{over}
use Rattle.rhai_machine.proofs.LanguageLaws.{cut_ends}
use Rattle.rhai_machine.proofs.language.script_cut_ends.Goals as goal

pub returns : goal.returns
returns g c = λ setting. cut_ends (over setting g.T.NativeTable.natives)
