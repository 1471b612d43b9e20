use Rattle.rhai_machine.specs.language.Setting.{over, cut}
use Rattle.rhai_machine.specs.language.Language.{machine}
use Rattle.rhai_machine.specs.language.Memory.{IsOutOfMemory}
use Rattle.rhai_laws.proofs.MemoryLaws.{leaves_law}
use Rattle.rhai_laws.proofs.ScriptMemory.{memory_unwinds}
use Rattle.rhai_laws.proofs.script.script_stays_out_of_memory.Goals as goal

pub returns : goal.returns
returns g c = λ setting p q o.
    let rules = over setting g.T.NativeTable.natives in
    leaves_law (machine rules) IsOutOfMemory (memory_unwinds rules) (cut rules) p q o
