use Rattle.rhai_constants.proofs.ConstantLemmas.{read_only_is_constant}
use Rattle.rhai_constants.proofs.script.read_only_is_constant.Goals as goal

pub returns : goal.returns
returns g c = read_only_is_constant _
