use Rattle.rhai_steps.specs.Operations.{operation_of}
use Rattle.std.proofs.Common.{[], ◌∷◌, ◌∙◌}
use Rattle.rhai_machine.specs.language.Setting.{Rules}
use Rattle.rhai_machine.specs.language.Frames.{Operation}
use Rattle.rhai_steps.specs.Sessions.{under}
use Rattle.rhai_steps.specs.States.{state_of}
use Rattle.rhai_callees.proofs.Going.{number_asks, number_races}
use Rattle.rhai_callees.proofs.Lists.{first_and_rest}
use Rattle.rhai_callees.proofs.call_number_all.Goals as goal

pub returns-then-races-clause-runs : goal.returns-then-races-clause-runs
returns-then-races-clause-runs g c scope held =
    let rules : Rules _ _ = under g.H.Host.name_of c.args.session.now g.T.NativeTable.natives in
    let operation : Operation = operation_of c.args.operation.now in
    number_races rules operation c.args.id.number c.args.args.now
    (state_of (g.T.NativeTable.state c.args.table.now) c.args.global.now scope held) c.data_race_by.result
    c.races.result (rw c.as_slice.ensures at c.races.ensures) c.if-races.true c.data_race_by.ensures

pub returns-then-is_empty-clause-runs : goal.returns-then-is_empty-clause-runs
returns-then-is_empty-clause-runs g c scope held =
    let rules : Rules _ _ = under g.H.Host.name_of c.args.session.now g.T.NativeTable.natives in
    let operation : Operation = operation_of c.args.operation.now in
    number_asks rules operation c.args.args.now [] (c.is_empty.ensures.0 c.if-is_empty.true) (state_of
    (g.T.NativeTable.state c.args.table.now) c.args.global.now scope held)
    (state_of (g.T.NativeTable.state c.call_number_alone.new.table) c.call_number_alone.new.global scope held) c.call_number_alone.result
    c.args.id.number c.races.result (rw c.as_slice.ensures at c.races.ensures) c.if-races.false
    (c.call_number_alone.ensures.runs scope held)

pub returns-clause-runs : goal.returns-clause-runs
returns-clause-runs g c scope held =
    let rules : Rules _ _ = under g.H.Host.name_of c.args.session.now g.T.NativeTable.natives in
    let operation : Operation = operation_of c.args.operation.now in
    number_asks rules operation c.args.args.now (c.remove-first.result ∷ c.as_slice-others.result.now)
    (first_and_rest c.args.args.now c.remove-first.result c.as_slice-others.result.now c.remove-first.ensures.item
    (c.as_slice-others.ensures ∙ c.remove-first.ensures.rest)) (state_of (g.T.NativeTable.state c.args.table.now)
    c.args.global.now scope held)
    (state_of (g.T.NativeTable.state c.call_number-result.new.table) c.call_number-result.new.global scope held) c.call_number-result.result
    c.args.id.number c.races.result (rw c.as_slice.ensures at c.races.ensures) c.if-races.false
    (c.call_number-result.ensures.runs scope held)
