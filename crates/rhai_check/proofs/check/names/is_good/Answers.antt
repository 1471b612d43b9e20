use Rattle.std.proofs.Common.{rules}
use Rattle.rhai_check.proofs.check.names.is_good.Goals as goal

pub returns-in-Some : goal.returns-in-Some
returns-in-Some c = search rules
