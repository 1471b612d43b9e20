use Rattle.std.proofs.Common.{sym, ◌∙◌}
use Rattle.rhai_machine.specs.language.Setting.{Rules}
use Rattle.rhai_steps.specs.Sessions.{under}
use Rattle.rhai_steps.specs.States.{state_of}
use Rattle.rhai_steps.specs.OnFocus.{lending}
use Rattle.rhai_links.specs.Chains.{new_value}
use Rattle.rhai_links.specs.Access.{access_of}
use Rattle.rhai_chains.proofs.SettingLemmas.{property_fails, sets_ungot, ungot_fails}
use Rattle.rhai_chains.proofs.assign.set_ungot.Goals as goal

pub returns-then-is_property-clause-runs : goal.returns-then-is_property-clause-runs
returns-then-is_property-clause-runs g c scope held root =
    let rules : Rules _ _ = under g.H.Host.name_of c.args.session.now g.T.NativeTable.natives in
    property_fails rules (access_of c.args.access.now) root (new_value c.args.new) c.args.error
    (state_of (g.T.NativeTable.state c.args.table.now) c.args.global.now scope (lending held c.args.focus.now))
    (sym c.is_property.ensures ∙ c.if-is_property.true)

pub returns-then-lacks_indexer-clause-runs : goal.returns-then-lacks_indexer-clause-runs
returns-then-lacks_indexer-clause-runs g c scope held root =
    let rules : Rules _ _ = under g.H.Host.name_of c.args.session.now g.T.NativeTable.natives in
    sets_ungot rules (access_of c.args.access.now) root (new_value c.args.new) c.args.error
    (state_of (g.T.NativeTable.state c.args.table.now) c.args.global.now scope (lending held c.args.focus.now))
    (state_of (g.T.NativeTable.state c.set_assigned.new.table) c.set_assigned.new.global scope (lending held c.set_assigned.new.focus))
    c.set_assigned.result (sym c.is_property.ensures ∙ c.if-is_property.false) (sym c.lacks_indexer.ensures ∙ c.if-lacks_indexer.true)
    (c.set_assigned.ensures.runs scope held)

pub returns-clause-runs : goal.returns-clause-runs
returns-clause-runs g c scope held root =
    let rules : Rules _ _ = under g.H.Host.name_of c.args.session.now g.T.NativeTable.natives in
    ungot_fails rules (access_of c.args.access.now) root (new_value c.args.new) c.args.error
    (state_of (g.T.NativeTable.state c.args.table.now) c.args.global.now scope (lending held c.args.focus.now))
    (sym c.lacks_indexer.ensures ∙ c.if-lacks_indexer.false)
