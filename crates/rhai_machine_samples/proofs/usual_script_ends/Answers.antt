use Rattle.rhai_machine.specs.language.Setting.{over}
use Rattle.rhai_machine_samples.specs.Runs.{usual}
use Rattle.rhai_machine.proofs.LanguageLaws.{settles, unwinds}
use Rattle.rhai_machine_samples.proofs.usual_script_ends.Goals as goal

pub returns : goal.returns
returns g c =
    let rules = over (usual g.H.Host.name_of) g.T.NativeTable.natives in
    c.always_ends.ensures (unwinds rules) (settles rules)
