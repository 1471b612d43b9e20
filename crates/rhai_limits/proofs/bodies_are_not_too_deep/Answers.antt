use Rattle.rhai_machine.specs.language.Setting.{over}
use Rattle.rhai_limits.proofs.Runs.{levels_keep, too_deep}
use Rattle.rhai_limits.proofs.bodies_are_not_too_deep.Goals as goal

pub returns-clause-levels : goal.returns-clause-levels
returns-clause-levels g c = λ setting. levels_keep (over setting g.T.NativeTable.natives)

pub returns-clause-refused : goal.returns-clause-refused
returns-clause-refused g c = λ setting. too_deep (over setting g.T.NativeTable.natives)
