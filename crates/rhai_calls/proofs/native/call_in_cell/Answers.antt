use Rattle.std.proofs.Common.{◌≡◌, ap, refl, sym, ◌∙◌}
use Rattle.std.specs.Option.{option_copied}
use Rattle.rhai_errors.specs.Native.{reply_of}
use Rattle.rhai_values.specs.Cells.{cells_of}
use Rattle.rhai_machine.specs.language.Frames.{Operation}
use Rattle.rhai_machine.specs.language.Setting.{Rules}
use Rattle.rhai_steps.specs.Operations.{operation_of}
use Rattle.rhai_steps.specs.Sessions.{under}
use Rattle.rhai_calls.proofs.Lent.{cell_plain, comes_back, in_held}
use Rattle.rhai_calls.proofs.NativeCalls.{calls_barred, calls_in_cell, calls_on, untold_by}
use Rattle.rhai_calls.proofs.native.call_in_cell.Goals as goal

pub returns-in-Err-clause-runs : goal.returns-in-Err-clause-runs
returns-in-Err-clause-runs g c =
    let rules : Rules _ _ = under g.H.Host.name_of c.args.session.now g.T.NativeTable.natives in
    let operation : Operation = operation_of c.args.operation.now in
    let there = sym c.in-Some.ensures.value in
    let plain = cell_plain (cells_of c.args.cells.now) c.args.cell.number c.in-Some.lent there c.requires in
    calls_in_cell rules operation c.args.id c.args.passing.guarded c.args.passing.marks c.args.cell c.args.rest.now
    (cells_of c.args.cells.now) (cells_of c.take.new.self) (cells_of c.put_back.new.cells) c.in-Some.lent c.ask_native-asked.new.first
    (g.T.NativeTable.state c.args.table.now) (g.T.NativeTable.state c.ask_native-asked.new.table) _
    there plain c.take.ensures.held c.put_back.ensures
    (calls_barred rules (cells_of c.take.new.self) (cells_of c.put_back.new.cells) operation c.args.id c.args.passing.guarded
    c.args.passing.marks c.in-Some.lent c.args.rest.now (g.T.NativeTable.state c.args.table.now) plain c.in-Err.error
    c.ask_native-asked.new.first (g.T.NativeTable.state c.ask_native-asked.new.table) _ c.in-Err.ensures.barred refl)

pub returns-in-Ok-clause-runs : goal.returns-in-Ok-clause-runs
returns-in-Ok-clause-runs g c =
    let rules : Rules _ _ = under g.H.Host.name_of c.args.session.now g.T.NativeTable.natives in
    let operation : Operation = operation_of c.args.operation.now in
    let there = sym c.in-Some.ensures.value in
    let plain = cell_plain (cells_of c.args.cells.now) c.args.cell.number c.in-Some.lent there c.requires in
    let left : c.unwrap-left.result.now ≡ c.ask_native-asked.new.first = comes_back (cells_of c.args.cells.now) (cells_of c.take.new.self)
    c.args.cell.number c.ask_native-asked.new.first c.unwrap-left.result.now
    (in_held (cells_of c.args.cells.now) c.args.cell.number c.in-Some.lent there) c.take.ensures.held
    (rw c.put_back.ensures at (ap option_copied (sym c.unwrap-left.ensures) ∙ c.get.ensures)) in
    calls_in_cell rules operation c.args.id c.args.passing.guarded c.args.passing.marks c.args.cell c.args.rest.now
    (cells_of c.args.cells.now) (cells_of c.take.new.self) (cells_of c.put_back.new.cells) c.in-Some.lent c.ask_native-asked.new.first
    (g.T.NativeTable.state c.args.table.now) (g.T.NativeTable.state c.ask_native-asked.new.table) c.tell_changed.result
    there plain c.take.ensures.held c.put_back.ensures
    (calls_on rules (cells_of c.take.new.self) (cells_of c.put_back.new.cells) operation c.args.id c.args.passing.guarded
    c.args.passing.marks c.in-Some.lent c.args.rest.now (g.T.NativeTable.state c.args.table.now) plain (reply_of c.in-Ok.answer)
    c.ask_native-asked.new.first (g.T.NativeTable.state c.ask_native-asked.new.table) c.in-Ok.changed c.is_some-by_number.result
    c.replied-result.result c.tell_changed.result c.in-Ok.ensures.asked c.is_some-by_number.ensures
    (rw left at c.replied-result.ensures.told) c.replied-result.ensures.memory c.tell_changed.ensures)

pub returns-in-Ok-clause-untold : goal.returns-in-Ok-clause-untold
returns-in-Ok-clause-untold g c = untold_by _ _ _ _ _ _ c.in-Ok.ensures.asked.2 c.tell_changed.ensures
