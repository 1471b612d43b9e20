use Rattle.rhai_limits.proofs.OtherRules.{limits_only_fail}
use Rattle.rhai_limits.proofs.limits_only_fail.Goals as goal

pub returns : goal.returns
returns g c = λ setting. limits_only_fail setting
