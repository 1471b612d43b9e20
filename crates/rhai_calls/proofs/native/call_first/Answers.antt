use Rattle.std.proofs.Common.{refl, sym, ◌∙◌}
use Rattle.rhai_machine.specs.language.Frames.{Operation}
use Rattle.rhai_machine.specs.language.Setting.{Rules}
use Rattle.rhai_steps.specs.Operations.{operation_of}
use Rattle.rhai_steps.specs.Sessions.{under}
use Rattle.rhai_calls.proofs.Lent.{cell_found, none_handle}
use Rattle.rhai_calls.proofs.NativeCalls.{first_by_itself, first_in_cell, first_races, still_stands}
use Rattle.rhai_calls.proofs.native.call_first.Goals as goal

pub returns-in_default-clause-runs : goal.returns-in_default-clause-runs
returns-in_default-clause-runs g c scope held lender stands =
    let rules : Rules _ _ = under g.H.Host.name_of c.args.session.now g.T.NativeTable.natives in
    let operation : Operation = operation_of c.args.operation.now in
    first_by_itself rules operation c.args.id lender c.args.passing.guarded c.args.passing.marks c.args.first.now c.args.rest.now
    (g.T.NativeTable.state c.args.table.now) (g.T.NativeTable.state c.call_value.new.table) c.args.global.now scope held stands
    c.call_value.result c.call_value.new.first (none_handle c.args.first.now.value (sym c.in_default.ensures))
    (c.call_value.ensures.runs)

pub returns-then-not-lends-clause-runs : goal.returns-then-not-lends-clause-runs
returns-then-not-lends-clause-runs g c scope held lender stands =
    let rules : Rules _ _ = under g.H.Host.name_of c.args.session.now g.T.NativeTable.natives in
    let operation : Operation = operation_of c.args.operation.now in
    first_races rules operation c.args.id lender c.args.passing.guarded c.args.passing.marks c.args.first.now c.args.rest.now
    (g.T.NativeTable.state c.args.table.now) (g.T.NativeTable.state c.args.table.now) c.args.global.now scope held stands _
    c.in-Some.cell (cell_found c.args.first.now.value c.in-Some.cell (sym c.handle_of.ensures ∙ c.in-Some.is)) refl
    (sym c.lends.ensures ∙ c.if-not-lends.true) c.data_race_by.result refl c.data_race_by.ensures

pub returns-clause-runs : goal.returns-clause-runs
returns-clause-runs g c scope held lender stands =
    let rules : Rules _ _ = under g.H.Host.name_of c.args.session.now g.T.NativeTable.natives in
    let operation : Operation = operation_of c.args.operation.now in
    first_in_cell rules operation c.args.id lender c.args.passing.guarded c.args.passing.marks c.args.first.now c.args.rest.now
    (g.T.NativeTable.state c.args.table.now) (g.T.NativeTable.state c.call_in_cell.new.table) c.args.global.now scope held stands
    c.call_in_cell.result _ c.in-Some.cell (cell_found c.args.first.now.value c.in-Some.cell (sym c.handle_of.ensures ∙ c.in-Some.is)) refl
    (c.call_in_cell.ensures.runs) (still_stands lender c.args.first.now c.args.global.now
    (record c.args.global.now { cells = c.call_in_cell.new.cells }) scope held stands)
