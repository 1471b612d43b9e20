use Rattle.rhai_machine.specs.language.Setting.{over}
use Rattle.rhai_laws.proofs.KeptLaws.{grown}
use Rattle.rhai_laws.proofs.script.script_grows.Goals as goal

pub returns : goal.returns
returns g c = λ setting. grown (over setting g.T.NativeTable.natives)
