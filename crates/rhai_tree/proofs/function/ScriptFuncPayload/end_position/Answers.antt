use Rattle.std.proofs.Common.{rules}
use Rattle.rhai_tree.proofs.function.ScriptFuncPayload.end_position.Goals as goal

pub returns : goal.returns
returns c = search rules
