use Rattle.std.proofs.Common.{rules}
use Rattle.rhai_names.proofs.variables.may_declare.Goals as goal

pub returns : goal.returns
returns g c = search rules
