use Rattle.rhai_constants.proofs.ConstantLemmas.{constant_is_read_only}
use Rattle.rhai_constants.proofs.script.constant_is_read_only.Goals as goal

pub returns : goal.returns
returns g c = constant_is_read_only _
