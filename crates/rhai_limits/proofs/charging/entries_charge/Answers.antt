use Rattle.rhai_machine.specs.language.Setting.{over}
use Rattle.rhai_limits.proofs.ChargeLaws.{entries_charge}
use Rattle.rhai_limits.proofs.charging.entries_charge.Goals as goal

pub returns : goal.returns
returns g c = λ setting. entries_charge (over setting g.T.NativeTable.natives)
