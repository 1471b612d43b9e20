use Rattle.rhai_machine_samples.proofs.ImportRuns.{imports}
use Rattle.rhai_machine_samples.proofs.sample_imports.Goals as goal

pub returns : goal.returns
returns g c = λ table host m other older. imports table host m other older
