use Rattle.rhai_machine.specs.language.Setting.{over}
use Rattle.rhai_fits.proofs.Runs.{runs_fit}
use Rattle.rhai_fits.proofs.script.script_fits.Goals as goal

pub returns : goal.returns
returns g c = λ setting. runs_fit (over setting g.T.NativeTable.natives) _ g.met.T.NativeTable.lawful
