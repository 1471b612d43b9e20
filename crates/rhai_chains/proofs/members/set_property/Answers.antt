use Rattle.std.proofs.Common.{sym, ◌∙◌}
use Rattle.rhai_machine.specs.language.Setting.{Rules}
use Rattle.rhai_steps.specs.Sessions.{under}
use Rattle.rhai_steps.specs.States.{state_of}
use Rattle.rhai_steps.specs.OnFocus.{lending}
use Rattle.rhai_chains.proofs.MemberLemmas.{sets, sets_named, sets_none}
use Rattle.rhai_chains.proofs.members.set_property.Goals as goal

pub returns-in-Ok-clause-runs : goal.returns-in-Ok-clause-runs
returns-in-Ok-clause-runs g c scope held member =
    let rules : Rules _ _ = under g.H.Host.name_of c.args.session.now g.T.NativeTable.natives in
    sets rules (record { member = member; at = c.args.property.now.at; guarded = c.args.property.now.guarded }) c.args.property.now.name.now
    c.args.value
    c.args.ignores c.args.property.now.name_at
    (state_of (g.T.NativeTable.state c.args.table.now) c.args.global.now scope (lending held c.args.focus.now))
    c.in-Ok.answer
    (state_of (g.T.NativeTable.state c.ask_setter.new.table) c.ask_setter.new.global scope (lending held c.ask_setter.new.focus))
    (c.in-Ok.ensures.runs scope held)

pub returns-then-lacks_property-clause-runs : goal.returns-then-lacks_property-clause-runs
returns-then-lacks_property-clause-runs g c scope held member =
    let rules : Rules _ _ = under g.H.Host.name_of c.args.session.now g.T.NativeTable.natives in
    sets_named rules (record { member = member; at = c.args.property.now.at; guarded = c.args.property.now.guarded })
    c.args.property.now.name.now c.args.value
    c.args.ignores c.args.property.now.name_at
    (state_of (g.T.NativeTable.state c.args.table.now) c.args.global.now scope (lending held c.args.focus.now))
    c.in-Err.error c.instead_of_indexer-otherwise.result
    (state_of (g.T.NativeTable.state c.ask_setter.new.table) c.ask_setter.new.global scope (lending held c.ask_setter.new.focus))
    (state_of (g.T.NativeTable.state c.set_named.new.table) c.set_named.new.global scope (lending held c.set_named.new.focus))
    c.set_named.result (c.in-Err.ensures.runs scope held) (sym c.lacks_property.ensures ∙ c.if-lacks_property.true)
    c.instead_of_indexer-otherwise.ensures (rw c.ask_setter.ensures.value at (c.set_named.ensures.runs scope held))

pub returns-else-lacks_property-clause-runs : goal.returns-else-lacks_property-clause-runs
returns-else-lacks_property-clause-runs g c scope held member =
    let rules : Rules _ _ = under g.H.Host.name_of c.args.session.now g.T.NativeTable.natives in
    sets_none rules (record { member = member; at = c.args.property.now.at; guarded = c.args.property.now.guarded })
    c.args.property.now.name.now c.args.value
    c.args.ignores c.args.property.now.name_at
    (state_of (g.T.NativeTable.state c.args.table.now) c.args.global.now scope (lending held c.args.focus.now))
    c.in-Err.error
    (state_of (g.T.NativeTable.state c.ask_setter.new.table) c.ask_setter.new.global scope (lending held c.ask_setter.new.focus))
    (c.in-Err.ensures.runs scope held) (sym c.lacks_property.ensures ∙ c.if-lacks_property.false)
