use Rattle.rhai_machine.specs.language.Setting.{over}
use Rattle.rhai_laws.proofs.KeptLaws.{names_begin}
use Rattle.rhai_laws.proofs.script.script_names_begin.Goals as goal

pub returns : goal.returns
returns g c = λ setting. names_begin (over setting g.T.NativeTable.natives)
