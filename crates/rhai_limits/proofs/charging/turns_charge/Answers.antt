use Rattle.rhai_machine.specs.language.Setting.{over}
use Rattle.rhai_limits.proofs.ChargeLaws.{turns_charge}
use Rattle.rhai_limits.proofs.charging.turns_charge.Goals as goal

pub returns : goal.returns
returns g c = λ setting. turns_charge (over setting g.T.NativeTable.natives)
