use Rattle.rhai_machine.specs.language.Setting.{over}
use Rattle.rhai_limits.proofs.Runs.{scopes_keep}
use Rattle.rhai_limits.proofs.scopes_keep_to_the_limit.Goals as goal

pub returns : goal.returns
returns g c = λ setting. scopes_keep (over setting g.T.NativeTable.natives)
