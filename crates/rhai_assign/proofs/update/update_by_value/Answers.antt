use Rattle.std.proofs.Common.{◌∙◌}
use Rattle.rhai_errors.specs.Native.{reply_of}
use Rattle.rhai_machine.specs.language.Setting.{Rules}
use Rattle.rhai_machine.specs.language.State.{State}
use Rattle.rhai_machine.specs.language.Frames.{AsValue, AskUpdate}
use Rattle.rhai_steps.specs.Sessions.{under}
use Rattle.rhai_steps.specs.States.{local_of, state_of}
use Rattle.rhai_assign.specs.Lending.{placed}
use Rattle.rhai_assign.specs.Updates.{update_of}
use Rattle.rhai_assign.proofs.Lent.{seen_cells}
use Rattle.rhai_assign.proofs.Updates.{valued_by, ends_of_memory}
use Rattle.rhai_assign.proofs.update.update_by_value.Goals as goal

pub returns-in_default-clause-runs : goal.returns-in_default-clause-runs
returns-in_default-clause-runs g c scope held place operand from only =
    let rules : Rules _ _ = under g.H.Host.name_of c.args.session.now g.T.NativeTable.natives in
    ends_of_memory rules (AskUpdate (update_of c.args.update AsValue place c.args.target.now operand))
    (placed place c.args.target.now (state_of (g.T.NativeTable.state c.args.table.now) c.args.global.now scope held)) c.args.update.at

pub returns-clause-runs : goal.returns-clause-runs
returns-clause-runs g c scope held place operand from only =
    let rules : Rules _ _ = under g.H.Host.name_of c.args.session.now g.T.NativeTable.natives in
    let start : State _ _ = placed place c.args.target.now
    (state_of (g.T.NativeTable.state c.args.table.now) c.args.global.now scope held) in
    let s : State _ _ = state_of (g.T.NativeTable.state c.ask_native.new.table) c.ask_native.new.global scope held in
    let named = c.in-Ok.ensures ∙ c.as_str.ensures in
    rw c.outcome_of-outcome.ensures.cells
    (valued_by rules c.args.update place start s c.args.target.now c.ask_native.new.target c.write_value.new.target operand
    (reply_of c.in_ok-answer.answer) c.outcome_of-outcome.result c.write_value.result
    (c.in_ok-answer.ensures.asked scope held place AsValue operand from named only)
    (rw (named, only, seen_cells place c.args.update.cell c.ask_native.new.target (local_of c.ask_native.new.global scope held) from)
    at c.outcome_of-outcome.ensures.told) c.outcome_of-outcome.ensures.memory
    c.write_value.ensures.written c.write_value.ensures.measured c.write_value.ensures.fault
    (rw c.outcome_of-outcome.ensures.target at c.write_value.ensures.left))
