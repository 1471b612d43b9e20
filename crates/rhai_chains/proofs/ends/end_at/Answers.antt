use Rattle.std.proofs.Common.{None}
use Rattle.rhai_machine.specs.language.Setting.{Rules}
use Rattle.rhai_steps.specs.Sessions.{under}
use Rattle.rhai_steps.specs.States.{state_of}
use Rattle.rhai_steps.specs.OnFocus.{lending}
use Rattle.rhai_links.specs.Chains.{chain_at, link_seen}
use Rattle.rhai_links.proofs.Descending.{taken_none, taken_there}
use Rattle.rhai_chains.proofs.ends.end_at.Goals as goal

pub returns-in-Some-clause-runs : goal.returns-in-Some-clause-runs
returns-in-Some-clause-runs g c scope held rest all in_place =
    rw (c.in-Some.is, c.settle_changed.ensures) (c.assign_at-assigned.ensures.runs scope held rest all in_place)

pub returns-in-Ok-clause-runs : goal.returns-in-Ok-clause-runs
returns-in-Ok-clause-runs g c scope held rest all in_place =
    let rules : Rules _ _ = under g.H.Host.name_of c.args.walker.now.session.now g.T.NativeTable.natives in
    let takes = c.in-Ok.ensures.takes in
    rw (c.in-None.is, c.in-Ok.ensures.same, c.put.ensures)
    (taken_there rules (link_seen c.args.link) (chain_at c.args.walker.now.root.now rest all None in_place) c.args.index.now
    c.args.source.now (state_of (g.T.NativeTable.state c.args.table.now) c.args.global.now scope (lending held c.args.source.now)) takes.0
    c.in-Ok.value takes.1.0 takes.1.1)

pub returns-in-Err-clause-runs : goal.returns-in-Err-clause-runs
returns-in-Err-clause-runs g c scope held rest all in_place =
    let rules : Rules _ _ = under g.H.Host.name_of c.args.walker.now.session.now g.T.NativeTable.natives in
    rw (c.in-None.is, c.in-Err.ensures.same, c.fail.ensures.failed, c.fail.ensures.told)
    (taken_none rules (link_seen c.args.link) (chain_at c.args.walker.now.root.now rest all None in_place) c.args.index.now
    c.args.source.now (state_of (g.T.NativeTable.state c.args.table.now) c.args.global.now scope (lending held c.args.source.now))
    c.in-Err.error c.in-Err.ensures.takes)
