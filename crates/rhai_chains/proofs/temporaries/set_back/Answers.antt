use Rattle.rhai_machine.specs.language.Setting.{Rules}
use Rattle.rhai_steps.specs.Sessions.{under}
use Rattle.rhai_steps.specs.States.{state_of}
use Rattle.rhai_steps.specs.OnFocus.{lending}
use Rattle.rhai_links.specs.Access.{access_of}
use Rattle.rhai_links.proofs.OnTemporaries.{set_ends, set_fails}
use Rattle.rhai_chains.proofs.temporaries.set_back.Goals as goal

pub returns-in-Ok-clause-runs : goal.returns-in-Ok-clause-runs
returns-in-Ok-clause-runs g c scope held =
    let rules : Rules _ _ = under g.H.Host.name_of c.args.walker.now.session.now g.T.NativeTable.natives in
    set_ends rules (access_of c.args.access) c.args.temporary c.args.out.now
    (state_of (g.T.NativeTable.state c.args.table.now) c.args.global.now scope (lending held c.args.source.now))
    (state_of (g.T.NativeTable.state c.set_member-set.new.table) c.set_member-set.new.global scope (lending held
    c.set_member-set.new.focus))
    c.in-Ok.answer c.in-Ok.field-0-1 (c.in-Ok.ensures.runs scope held)

pub returns-in-Err-clause-runs : goal.returns-in-Err-clause-runs
returns-in-Err-clause-runs g c scope held =
    let rules : Rules _ _ = under g.H.Host.name_of c.args.walker.now.session.now g.T.NativeTable.natives in
    rw (c.fail.ensures.failed, c.fail.ensures.told) (set_fails rules (access_of c.args.access) c.args.temporary c.args.out.now
    (state_of (g.T.NativeTable.state c.args.table.now) c.args.global.now scope (lending held c.args.source.now))
    (state_of (g.T.NativeTable.state c.set_member-set.new.table) c.set_member-set.new.global scope (lending held
    c.set_member-set.new.focus))
    c.in-Err.error (c.in-Err.ensures.runs scope held))
