use Rattle.rhai_machine.specs.language.Setting.{over}
use Rattle.rhai_machine.proofs.LanguageLaws.{cut_follows}
use Rattle.rhai_machine.proofs.language.script_cut_follows.Goals as goal

pub returns : goal.returns
returns g c = λ setting. cut_follows (over setting g.T.NativeTable.natives)
