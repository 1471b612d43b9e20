use Rattle.std.proofs.Common.{Some, refl}
use Rattle.rhai_machine.specs.machine.Memory.{here}
use Rattle.rhai_machine.specs.language.Frames.{FromThis}
use Rattle.rhai_machine.specs.language.Runs.{Goes}
use Rattle.rhai_callees.proofs.this.call_on_this.Goals as goal

pub returns-in-Some-clause-runs : goal.returns-in-Some-clause-runs
unfolding Goes
returns-in-Some-clause-runs g c scope focus on_scope k =
    rw c.in-Some.is
    (c.call_first.ensures.runs scope (record { this = Some c.in-Some.first; focus = focus }) FromThis on_scope refl k)

pub returns-in-None-clause-runs : goal.returns-in-None-clause-runs
unfolding Goes
returns-in-None-clause-runs g c scope focus on_scope k = rw c.in-None.is here
