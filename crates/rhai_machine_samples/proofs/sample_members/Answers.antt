use Rattle.rhai_machine_samples.proofs.MemberRuns.{members}
use Rattle.rhai_machine_samples.proofs.sample_members.Goals as goal

pub returns : goal.returns
returns g c = λ table host. members table host
