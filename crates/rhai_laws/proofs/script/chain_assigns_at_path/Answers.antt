use Rattle.rhai_machine.specs.language.Setting.{over}
use Rattle.rhai_laws.proofs.AssignedLaws.{assigns_at_path}
use Rattle.rhai_laws.proofs.script.chain_assigns_at_path.Goals as goal

pub returns : goal.returns
returns g c = λ setting. assigns_at_path (over setting g.T.NativeTable.natives)
