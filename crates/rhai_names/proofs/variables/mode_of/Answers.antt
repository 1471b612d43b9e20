use Rattle.std.proofs.Common.{rules}
use Rattle.rhai_names.proofs.variables.mode_of.Goals as goal

pub returns-then-is_constant : goal.returns-then-is_constant
returns-then-is_constant c = search rules

pub returns-else-is_constant : goal.returns-else-is_constant
returns-else-is_constant c = search rules
