use Rattle.rhai_machine.specs.language.Setting.{over}
use Rattle.rhai_machine.proofs.WritesAtOnce.{descent_laws}
use Rattle.rhai_machine.proofs.language.chain_writes_at_once.Goals as goal

pub returns : goal.returns
returns g c = λ setting. descent_laws (over setting g.T.NativeTable.natives)
