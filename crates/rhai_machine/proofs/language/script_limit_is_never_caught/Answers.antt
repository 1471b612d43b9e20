use Rattle.rhai_machine.specs.language.Setting.{over}
use Rattle.rhai_machine.proofs.LanguageLaws.{never_caught}
use Rattle.rhai_machine.proofs.language.script_limit_is_never_caught.Goals as goal

pub returns : goal.returns
returns g c = λ setting. never_caught (over setting g.T.NativeTable.natives)
