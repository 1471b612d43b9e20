use Rattle.rhai_steps.proofs.Agreeing.{brings}
use Rattle.rhai_callees.proofs.path.prepend_last.Goals as goal

pub read_last_value-requires : goal.read_last_value-requires
read_last_value-requires g c = brings (λ frame h. rw c.in-Some.is at h) c.requires
