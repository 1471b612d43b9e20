use Rattle.rhai_machine.specs.language.Setting.{over}
use Rattle.rhai_laws.proofs.KeptLaws.{kept}
use Rattle.rhai_laws.proofs.script.script_keeps.Goals as goal

pub returns : goal.returns
returns g c = λ setting. kept (over setting g.T.NativeTable.natives)
