use Rattle.std.proofs.Common.{sym, ◌∙◌}
use Rattle.std.proofs.lemmas.Bool.{false≢true}
use Rattle.rhai_machine.specs.language.Setting.{Rules}
use Rattle.rhai_steps.specs.Sessions.{under}
use Rattle.rhai_steps.specs.States.{state_of}
use Rattle.rhai_steps.specs.OnFocus.{lending}
use Rattle.rhai_links.specs.Chains.{new_value}
use Rattle.rhai_chains.proofs.AssignLemmas.{assigns, assigns_at_once}
use Rattle.rhai_chains.proofs.assign.assign_to.Goals as goal

pub returns-then-is_plain_unit-clause-runs : goal.returns-then-is_plain_unit-clause-runs
returns-then-is_plain_unit-clause-runs g c scope held =
    let rules : Rules _ _ = under g.H.Host.name_of c.args.session.now g.T.NativeTable.natives in
    assigns_at_once rules _ c.args.root.now (new_value c.args.new)
    (state_of (g.T.NativeTable.state c.args.table.now) c.args.global.now scope (lending held c.args.target.now))
    (state_of (g.T.NativeTable.state c.assign_inserted.new.table) c.assign_inserted.new.global scope
    (lending held c.assign_inserted.new.target))
    c.assign_inserted.result (c.assign_inserted.ensures.runs scope held)

pub returns-clause-runs : goal.returns-clause-runs
returns-clause-runs g c scope held =
    let rules : Rules _ _ = under g.H.Host.name_of c.args.session.now g.T.NativeTable.natives in
    assigns rules _ c.args.root.now (new_value c.args.new)
    (state_of (g.T.NativeTable.state c.args.table.now) c.args.global.now scope (lending held c.args.target.now))
    (state_of (g.T.NativeTable.state c.assign_focus.new.table) c.assign_focus.new.global scope (lending held c.assign_focus.new.target))
    c.assign_focus.result (λ is. false≢true (sym c.if-is_plain_unit.false ∙ c.is_plain_unit.ensures.1 is))
    (c.assign_focus.ensures.runs scope held)
