use Rattle.rhai_machine_samples.proofs.CallRuns.{keywords}
use Rattle.rhai_machine_samples.proofs.sample_keywords.Goals as goal

pub returns : goal.returns
returns g c = λ table host. keywords table host
