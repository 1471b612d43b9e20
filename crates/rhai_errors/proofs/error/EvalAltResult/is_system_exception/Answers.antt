use Rattle.std.proofs.Common.{rules}
use Rattle.rhai_errors.proofs.error.EvalAltResult.is_system_exception.Goals as goal

pub returns-in_default : goal.returns-in_default
returns-in_default g c = search rules
