use Rattle.std.proofs.Common.{sym, ◌∙◌}
use Rattle.rhai_machine.specs.language.Setting.{Rules}
use Rattle.rhai_steps.specs.Sessions.{under}
use Rattle.rhai_steps.specs.States.{state_of}
use Rattle.rhai_steps.specs.OnFocus.{lending}
use Rattle.rhai_links.specs.Access.{access_of}
use Rattle.rhai_chains.proofs.SettingLemmas.{item_operated, item_refused, property_operated}
use Rattle.rhai_chains.proofs.assign.set_operated.Goals as goal

pub returns-then-is_property-clause-runs : goal.returns-then-is_property-clause-runs
returns-then-is_property-clause-runs g c scope held answer =
    let rules : Rules _ _ = under g.H.Host.name_of c.args.session.now g.T.NativeTable.natives in
    property_operated rules (access_of c.args.access.now) c.args.focus.now c.args.value c.args.pos answer
    (state_of (g.T.NativeTable.state c.args.table.now) c.args.global.now scope held)
    (state_of (g.T.NativeTable.state c.set_assigned.new.table) c.set_assigned.new.global scope (lending held c.set_assigned.new.focus))
    c.set_assigned.result (sym c.is_property.ensures ∙ c.if-is_property.true) (c.set_assigned.ensures.runs scope held)

pub returns-in-Ok-clause-runs : goal.returns-in-Ok-clause-runs
returns-in-Ok-clause-runs g c scope held answer =
    let rules : Rules _ _ = under g.H.Host.name_of c.args.session.now g.T.NativeTable.natives in
    item_operated rules (access_of c.args.access.now) c.args.focus.now c.args.value c.args.pos answer
    (state_of (g.T.NativeTable.state c.args.table.now) c.args.global.now scope held)
    (state_of (g.T.NativeTable.state c.set_assigned-in-Ok.new.table) c.set_assigned-in-Ok.new.global scope
    (lending held c.set_assigned-in-Ok.new.focus)) c.set_assigned-in-Ok.result c.in-Ok.value
    (sym c.is_property.ensures ∙ c.if-is_property.false) (c.in-Ok.ensures tt) (c.set_assigned-in-Ok.ensures.runs scope held)

pub returns-in-Err-clause-runs : goal.returns-in-Err-clause-runs
returns-in-Err-clause-runs g c scope held answer =
    let rules : Rules _ _ = under g.H.Host.name_of c.args.session.now g.T.NativeTable.natives in
    item_refused rules (access_of c.args.access.now) c.args.focus.now c.args.value c.args.pos answer
    (state_of (g.T.NativeTable.state c.args.table.now) c.args.global.now scope held) c.in-Err.error
    (sym c.is_property.ensures ∙ c.if-is_property.false) c.in-Err.ensures
