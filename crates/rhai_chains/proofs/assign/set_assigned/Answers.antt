use Rattle.std.proofs.Common.{sym, ◌∙◌}
use Rattle.rhai_machine.specs.language.Setting.{Rules}
use Rattle.rhai_steps.specs.Sessions.{under}
use Rattle.rhai_steps.specs.States.{state_of}
use Rattle.rhai_steps.specs.OnFocus.{lending}
use Rattle.rhai_links.specs.Access.{access_of}
use Rattle.rhai_chains.proofs.SettingLemmas.{sets_item, sets_property}
use Rattle.rhai_chains.proofs.assign.set_assigned.Goals as goal

pub returns-then-of_property-clause-runs : goal.returns-then-of_property-clause-runs
returns-then-of_property-clause-runs g c scope held =
    let rules : Rules _ _ = under g.H.Host.name_of c.args.session.now g.T.NativeTable.natives in
    sets_property rules (access_of c.args.access.now) c.args.value
    (state_of (g.T.NativeTable.state c.args.table.now) c.args.global.now scope (lending held c.args.focus.now))
    (state_of (g.T.NativeTable.state c.set_member-answer.new.table) c.set_member-answer.new.global scope
    (lending held c.set_member-answer.new.focus)) c.set_member-answer.result
    (sym c.is_property-of_property.ensures ∙ c.if-of_property.true) (c.set_member-answer.ensures.runs scope held)

pub returns-else-of_property-clause-runs : goal.returns-else-of_property-clause-runs
returns-else-of_property-clause-runs g c scope held =
    let rules : Rules _ _ = under g.H.Host.name_of c.args.session.now g.T.NativeTable.natives in
    sets_item rules (access_of c.args.access.now) c.args.value
    (state_of (g.T.NativeTable.state c.args.table.now) c.args.global.now scope (lending held c.args.focus.now))
    (state_of (g.T.NativeTable.state c.set_member-answer.new.table) c.set_member-answer.new.global scope
    (lending held c.set_member-answer.new.focus)) c.set_member-answer.result c.item_set.result
    (sym c.is_property-of_property.ensures ∙ c.if-of_property.false) c.item_set.ensures.set c.item_set.ensures.fault
    (c.set_member-answer.ensures.runs scope held)
