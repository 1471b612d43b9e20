use Rattle.std.proofs.Common.{rules}
use Rattle.rhai_tree.proofs.function.ScriptFuncPayload.start_position.Goals as goal

pub returns : goal.returns
returns c = search rules
