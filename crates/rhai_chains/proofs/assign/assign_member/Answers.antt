use Rattle.std.proofs.Common.{subst}
use Rattle.rhai_machine.specs.language.Frames.{MemberAccess, core, ended_or_changed}
use Rattle.rhai_machine.specs.language.Setting.{Rules}
use Rattle.rhai_machine.specs.language.State.{State}
use Rattle.rhai_machine.specs.language.Runs.{Goes}
use Rattle.rhai_steps.specs.Sessions.{under}
use Rattle.rhai_steps.specs.States.{state_of}
use Rattle.rhai_steps.specs.OnFocus.{lending}
use Rattle.rhai_chains.specs.Assigned.{none_got, value_got}
use Rattle.rhai_links.specs.Chains.{new_value}
use Rattle.rhai_links.specs.Access.{access_of}
use Rattle.rhai_chains.proofs.SettingLemmas.{gets_none, operates, sets_plainly}
use Rattle.rhai_chains.proofs.assign.assign_member.Goals as goal

pub returns-in-None-clause-runs : goal.returns-in-None-clause-runs
returns-in-None-clause-runs g c scope held =
    let rules : Rules _ _ = under g.H.Host.name_of c.args.session.now g.T.NativeTable.natives in
    sets_plainly rules (access_of c.args.access.now) c.args.root.now (new_value c.args.new)
    (state_of (g.T.NativeTable.state c.args.table.now) c.args.global.now scope (lending held c.args.focus.now))
    (state_of (g.T.NativeTable.state c.set_assigned.new.table) c.set_assigned.new.global scope (lending held c.set_assigned.new.focus))
    c.set_assigned.result c.in-None.is (c.set_assigned.ensures.runs scope held)

pub returns-in-Ok-clause-runs : goal.returns-in-Ok-clause-runs
returns-in-Ok-clause-runs g c scope held =
    let rules : Rules _ _ = under g.H.Host.name_of c.args.session.now g.T.NativeTable.natives in
    let got : State _ _ = state_of (g.T.NativeTable.state c.get_member.new.table) c.get_member.new.global scope
    (lending held c.get_member.new.focus) in
    let new : State _ _ = state_of (g.T.NativeTable.state c.operate.new.table) c.operate.new.global scope
    (lending held c.operate.new.focus) in
    operates rules (access_of c.args.access.now) c.args.root.now (new_value c.args.new)
    (state_of (g.T.NativeTable.state c.args.table.now) c.args.global.now scope (lending held c.args.focus.now)) new
    c.in-Some.field-0 c.in-Ok.value c.in-Ok.field-0-1 got c.operate.result c.in-Some.is (c.in-Ok.ensures.runs scope held)
    (subst (λ (access : MemberAccess _).
    Goes rules (value_got access c.args.root.now (new_value c.args.new) c.in-Ok.value) got (core (ended_or_changed c.operate.result)) new)
    c.get_member.ensures.access (c.operate.ensures.runs scope held))

pub returns-in-Err-clause-runs : goal.returns-in-Err-clause-runs
returns-in-Err-clause-runs g c scope held =
    let rules : Rules _ _ = under g.H.Host.name_of c.args.session.now g.T.NativeTable.natives in
    let got : State _ _ = state_of (g.T.NativeTable.state c.get_member.new.table) c.get_member.new.global scope
    (lending held c.get_member.new.focus) in
    let new : State _ _ = state_of (g.T.NativeTable.state c.set_ungot.new.table) c.set_ungot.new.global scope
    (lending held c.set_ungot.new.focus) in
    gets_none rules (access_of c.args.access.now) c.args.root.now (new_value c.args.new)
    (state_of (g.T.NativeTable.state c.args.table.now) c.args.global.now scope (lending held c.args.focus.now)) new
    c.in-Some.field-0 c.in-Err.error got c.set_ungot.result c.in-Some.is (c.in-Err.ensures.runs scope held)
    (subst (λ (access : MemberAccess _).
    Goes rules (none_got access c.args.root.now (new_value c.args.new) c.in-Err.error) got (core (ended_or_changed c.set_ungot.result)) new)
    c.get_member.ensures.access (c.set_ungot.ensures.runs scope held c.args.root.now))
