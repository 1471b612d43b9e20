use Rattle.std.proofs.Common.{rules}
use Rattle.rhai_names.proofs.variables.read_global.Goals as goal
