use Rattle.std.proofs.Common.{refl}
use Rattle.rhai_state.proofs.state.GlobalRuntimeState.truncate_imports.Goals as goal

pub returns : goal.returns
returns g c = rw c.truncate.ensures refl
