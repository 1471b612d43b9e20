use Rattle.rhai_limits.proofs.Meeting.{met_limits_fail}
use Rattle.rhai_limits.proofs.met_limits_fail.Goals as goal

pub returns : goal.returns
returns g c = λ setting. met_limits_fail setting
