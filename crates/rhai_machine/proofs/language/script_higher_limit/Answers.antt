use Rattle.rhai_machine.specs.language.Setting.{over}
use Rattle.rhai_machine.proofs.LanguageLaws.{higher_limit}
use Rattle.rhai_machine.proofs.language.script_higher_limit.Goals as goal

pub returns : goal.returns
returns g c = λ setting. higher_limit (over setting g.T.NativeTable.natives)
