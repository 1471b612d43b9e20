use Rattle.rhai_machine_samples.proofs.MemberRuns.{set_back}
use Rattle.rhai_machine_samples.proofs.sample_set_back.Goals as goal

pub returns : goal.returns
returns g c = λ table host. set_back table host
