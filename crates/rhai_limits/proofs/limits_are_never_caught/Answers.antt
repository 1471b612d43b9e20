use Rattle.rhai_machine.specs.language.Setting.{over}
use Rattle.rhai_limits.proofs.Passing.{limits_only_unwind}
use Rattle.rhai_limits.proofs.limits_are_never_caught.Goals as goal

pub returns : goal.returns
returns g c = λ setting. limits_only_unwind (over setting g.T.NativeTable.natives)
