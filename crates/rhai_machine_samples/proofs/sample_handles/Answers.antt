use Rattle.rhai_machine_samples.proofs.SampleRuns.{handles}
use Rattle.rhai_machine_samples.proofs.sample_handles.Goals as goal

pub returns : goal.returns
returns g c = λ table host. handles table host
