use Rattle.rhai_constants.proofs.ConstantLemmas.{const_is_constant}
use Rattle.rhai_constants.proofs.script.const_is_constant.Goals as goal

pub returns : goal.returns
returns g c = const_is_constant _
