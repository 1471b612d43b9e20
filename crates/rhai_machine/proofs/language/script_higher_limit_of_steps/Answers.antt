use Rattle.rhai_machine.specs.language.Setting.{over}
use Rattle.rhai_machine.proofs.LanguageLaws.{higher_limit_of_steps}
use Rattle.rhai_machine.proofs.language.script_higher_limit_of_steps.Goals as goal

pub returns : goal.returns
returns g c = λ setting. higher_limit_of_steps (over setting g.T.NativeTable.natives)
