use Rattle.rhai_machine.specs.language.Setting.{over}
use Rattle.rhai_laws.proofs.ScriptMemory.{runs_up_to_memory}
use Rattle.rhai_laws.proofs.script.script_goes_up_to_memory.Goals as goal

pub returns : goal.returns
returns g c = λ setting p q steps. runs_up_to_memory (over setting g.T.NativeTable.natives) steps
