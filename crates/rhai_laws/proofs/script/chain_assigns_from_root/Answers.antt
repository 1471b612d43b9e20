use Rattle.rhai_machine.specs.language.Setting.{over}
use Rattle.rhai_laws.proofs.RootLaws.{assigns_from_root}
use Rattle.rhai_laws.proofs.script.chain_assigns_from_root.Goals as goal

pub returns : goal.returns
returns g c = λ setting. assigns_from_root (over setting g.T.NativeTable.natives)
