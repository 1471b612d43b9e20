use Rattle.rhai_machine.specs.language.Setting.{over}
use Rattle.rhai_laws.proofs.ScriptMemory.{with_memory}
use Rattle.rhai_laws.proofs.script.script_goes_with_memory.Goals as goal

pub returns : goal.returns
returns g c = λ setting p r new has steps. with_memory (over setting g.T.NativeTable.natives) r new has steps
