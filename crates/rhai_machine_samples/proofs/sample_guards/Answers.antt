use Rattle.rhai_machine_samples.proofs.MemberRuns.{guards}
use Rattle.rhai_machine_samples.proofs.sample_guards.Goals as goal

pub returns : goal.returns
returns g c = λ table host. guards table host
