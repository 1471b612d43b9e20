use Rattle.rhai_machine.specs.language.Setting.{over}
use Rattle.rhai_fits.proofs.Runs.{runs_keep}
use Rattle.rhai_fits.proofs.script.script_adds_only_cells.Goals as goal

pub returns : goal.returns
returns g c = λ setting. runs_keep (over setting g.T.NativeTable.natives) _ g.met.T.NativeTable.lawful
