use Rattle.rhai_steps.specs.Operations.{operation_of}
use Rattle.std.proofs.Common.{Some, refl, sym, ◌∙◌}
use Rattle.rhai_machine.specs.language.Setting.{Rules}
use Rattle.rhai_machine.specs.language.Frames.{FromFocus}
use Rattle.rhai_steps.specs.Sessions.{under}
use Rattle.rhai_steps.specs.States.{state_of}
use Rattle.rhai_steps.specs.OnFocus.{lending}
use Rattle.rhai_methods.proofs.Going.{number_asks_on, number_races_on}
use Rattle.rhai_methods.proofs.calls.number_on.Goals as goal

pub returns-then-call_races-clause-runs : goal.returns-then-call_races-clause-runs
returns-then-call_races-clause-runs g c scope held =
    let rules : Rules _ _ = under g.H.Host.name_of c.args.session.now g.T.NativeTable.natives in
    number_races_on rules c.args.operation.now.at c.args.id.number (operation_of c.args.operation.now) c.args.args.now c.args.target.now
    (state_of (g.T.NativeTable.state c.args.table.now) c.args.global.now scope (lending held c.args.target.now))
    c.data_race_by.result (sym c.call_races.ensures ∙ c.if-call_races.true) c.data_race_by.ensures

pub returns-clause-runs : goal.returns-clause-runs
returns-clause-runs g c scope held =
    let rules : Rules _ _ = under g.H.Host.name_of c.args.session.now g.T.NativeTable.natives in
    number_asks_on rules c.args.operation.now.at c.args.id.number (operation_of c.args.operation.now) c.args.args.now c.args.target.now
    (state_of (g.T.NativeTable.state c.args.table.now) c.args.global.now scope (lending held c.args.target.now))
    (state_of (g.T.NativeTable.state c.call_number_on.new.table) c.call_number_on.new.global scope
    (lending held c.call_number_on.new.first))
    c.call_number_on.result (sym c.call_races.ensures ∙ c.if-call_races.false)
    (c.call_number_on.ensures.runs scope (lending held c.args.target.now) (Some FromFocus) refl)
