use Rattle.std.proofs.Common.{ap}
use Rattle.std.specs.Option.{option_map}
use Rattle.rhai_machine.specs.language.Setting.{Rules}
use Rattle.rhai_steps.specs.Sessions.{under}
use Rattle.rhai_steps.specs.States.{state_of}
use Rattle.rhai_steps.specs.OnFocus.{lending}
use Rattle.rhai_links.specs.Access.{access_of}
use Rattle.rhai_context.specs.Ends.{came_changed, error_in}
use Rattle.rhai_links.proofs.OnTemporaries.{comes_failed, comes_unchanged, no_way_back, set_there}
use Rattle.rhai_chains.proofs.temporaries.come_back.Goals as goal

pub returns-in_default-clause-runs : goal.returns-in_default-clause-runs
returns-in_default-clause-runs g c scope held =
    let rules : Rules _ _ = under g.H.Host.name_of c.args.walker.now.session.now g.T.NativeTable.natives in
    no_way_back rules c.args.source.now c.args.temporary
    (state_of (g.T.NativeTable.state c.args.table.now) c.args.global.now scope (lending held c.args.source.now))
    (option_map access_of c.args.back) (came_changed c.args.mark c.args.out.now c.args.place.now)
    (ap (option_map access_of) c.in_default.is)

pub returns-in-Some-true-clause-runs : goal.returns-in-Some-true-clause-runs
returns-in-Some-true-clause-runs g c scope held =
    let rules : Rules _ _ = under g.H.Host.name_of c.args.walker.now.session.now g.T.NativeTable.natives in
    rw (c.in-Some-true.is, c.in-Some-true.field-0-test)
    (set_there rules c.args.source.now c.args.temporary
    (state_of (g.T.NativeTable.state c.args.table.now) c.args.global.now scope (lending held c.args.source.now))
    (option_map access_of c.args.back) (access_of c.in-Some.access) c.args.out.now
    (state_of (g.T.NativeTable.state c.set_back.new.table) c.set_back.new.global scope (lending held c.set_back.new.source))
    (came_changed c.set_back.result c.args.out.now c.set_back.new.place) (ap (option_map access_of) c.in-Some.is) (c.set_back.ensures.runs
    scope held))

pub returns-in-Some-false-clause-runs : goal.returns-in-Some-false-clause-runs
returns-in-Some-false-clause-runs g c scope held =
    let rules : Rules _ _ = under g.H.Host.name_of c.args.walker.now.session.now g.T.NativeTable.natives in
    rw (c.in-Some-false.is, c.in-Some-false.field-0-test)
    (comes_unchanged rules c.args.source.now c.args.temporary
    (state_of (g.T.NativeTable.state c.args.table.now) c.args.global.now scope (lending held c.args.source.now))
    (option_map access_of c.args.back) c.args.out.now)

pub returns-in-None-clause-runs : goal.returns-in-None-clause-runs
returns-in-None-clause-runs g c scope held =
    let rules : Rules _ _ = under g.H.Host.name_of c.args.walker.now.session.now g.T.NativeTable.natives in
    rw c.in-None.is
    (comes_failed rules c.args.source.now c.args.temporary
    (state_of (g.T.NativeTable.state c.args.table.now) c.args.global.now scope (lending held c.args.source.now))
    (option_map access_of c.args.back) (error_in c.args.place.now))
