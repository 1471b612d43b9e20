use Rattle.rhai_machine.specs.machine.Memory.{◌⨾◌}
use Rattle.rhai_machine.specs.language.Runs.{Goes}
use Rattle.rhai_steps.specs.Sessions.{under}
use Rattle.rhai_data.proofs.TextSteps.{flat_leads, flat_refused}
use Rattle.rhai_data.proofs.text.join.Goals as goal

pub returns-then-not-flatten_at-clause-runs : goal.returns-then-not-flatten_at-clause-runs
unfolding Goes
returns-then-not-flatten_at-clause-runs g c scope held rest k =
    let rules = under g.H.Host.name_of c.args.session.now g.T.NativeTable.natives in
    flat_refused rules _ c.args.out.now _ rest k _ _ c.if-not-flatten_at.ensures.exact

pub returns-in-Ok-clause-runs : goal.returns-in-Ok-clause-runs
unfolding Goes
returns-in-Ok-clause-runs g c scope held rest k =
    let rules = under g.H.Host.name_of c.args.session.now g.T.NativeTable.natives in
    flat_leads rules _ c.args.out.now _ rest k _ _ (c.if-not-flatten_at.ensures.exact tt)
    ⨾ (rw c.position.ensures at c.in-Ok.ensures.runs) scope held rest k

pub returns-in-Err-clause-runs : goal.returns-in-Err-clause-runs
unfolding Goes
returns-in-Err-clause-runs g c scope held rest k =
    let rules = under g.H.Host.name_of c.args.session.now g.T.NativeTable.natives in
    rw (c.stop.ensures.stopped, c.stop.ensures.told)
    (flat_leads rules _ c.args.out.now _ rest k _ _ (c.if-not-flatten_at.ensures.exact tt)
    ⨾ (rw c.position.ensures at c.in-Err.ensures.runs) scope held rest k)
