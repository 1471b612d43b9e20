use Rattle.rhai_machine_samples.proofs.ShareRuns.{shares}
use Rattle.rhai_machine_samples.proofs.sample_shares.Goals as goal

pub returns : goal.returns
returns g c = λ table host. shares table host
