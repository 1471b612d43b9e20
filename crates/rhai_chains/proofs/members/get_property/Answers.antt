use Rattle.std.proofs.Common.{sym, ◌∙◌}
use Rattle.rhai_machine.specs.language.Setting.{Rules}
use Rattle.rhai_steps.specs.Sessions.{under}
use Rattle.rhai_steps.specs.States.{state_of}
use Rattle.rhai_steps.specs.OnFocus.{lending}
use Rattle.rhai_chains.proofs.MemberLemmas.{gets, gets_named, gets_none}
use Rattle.rhai_chains.proofs.members.get_property.Goals as goal

pub returns-in-Ok-clause-runs : goal.returns-in-Ok-clause-runs
returns-in-Ok-clause-runs g c scope held member =
    let rules : Rules _ _ = under g.H.Host.name_of c.args.session.now g.T.NativeTable.natives in
    gets rules (record { member = member; at = c.args.property.now.at; guarded = c.args.property.now.guarded }) c.args.property.now.name.now
    c.args.property.now.name_at
    (state_of (g.T.NativeTable.state c.args.table.now) c.args.global.now scope (lending held c.args.focus.now)) c.in-Ok.answer
    (state_of (g.T.NativeTable.state c.ask_property.new.table) c.ask_property.new.global scope (lending held c.ask_property.new.focus))
    (rw (c.as_slice-rest.ensures, c.new-none.ensures) at (c.in-Ok.ensures.runs scope held))

pub returns-then-lacks_property-clause-runs : goal.returns-then-lacks_property-clause-runs
returns-then-lacks_property-clause-runs g c scope held member =
    let rules : Rules _ _ = under g.H.Host.name_of c.args.session.now g.T.NativeTable.natives in
    gets_named rules (record { member = member; at = c.args.property.now.at; guarded = c.args.property.now.guarded })
    c.args.property.now.name.now c.args.property.now.name_at
    (state_of (g.T.NativeTable.state c.args.table.now) c.args.global.now scope (lending held c.args.focus.now)) c.in-Err.error
    (state_of (g.T.NativeTable.state c.ask_property.new.table) c.ask_property.new.global scope (lending held c.ask_property.new.focus))
    (state_of (g.T.NativeTable.state c.get_named.new.table) c.get_named.new.global scope (lending held c.get_named.new.focus))
    c.get_named.result (rw (c.as_slice-rest.ensures, c.new-none.ensures) at (c.in-Err.ensures.runs scope held))
    (sym c.lacks_property.ensures ∙ c.if-lacks_property.true) (c.get_named.ensures.runs scope held)

pub returns-clause-runs : goal.returns-clause-runs
returns-clause-runs g c scope held member =
    let rules : Rules _ _ = under g.H.Host.name_of c.args.session.now g.T.NativeTable.natives in
    gets_none rules (record { member = member; at = c.args.property.now.at; guarded = c.args.property.now.guarded })
    c.args.property.now.name.now c.args.property.now.name_at
    (state_of (g.T.NativeTable.state c.args.table.now) c.args.global.now scope (lending held c.args.focus.now)) c.in-Err.error
    (state_of (g.T.NativeTable.state c.ask_property.new.table) c.ask_property.new.global scope (lending held c.ask_property.new.focus))
    (rw (c.as_slice-rest.ensures, c.new-none.ensures) at (c.in-Err.ensures.runs scope held))
    (sym c.lacks_property.ensures ∙ c.if-lacks_property.false)
