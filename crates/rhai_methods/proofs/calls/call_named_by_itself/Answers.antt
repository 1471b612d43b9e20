use Rattle.std.proofs.Common.{true, false}
use Rattle.rhai_machine.specs.language.Setting.{Rules}
use Rattle.rhai_machine.specs.language.Calls.{call_of, plainly}
use Rattle.rhai_machine.specs.language.Arguments.{natives_alone, operation_named}
use Rattle.rhai_steps.specs.Sessions.{under}
use Rattle.rhai_steps.specs.States.{state_of}
use Rattle.rhai_methods.proofs.Going.{dispatched_ends, named_enters_alone}
use Rattle.rhai_methods.proofs.calls.call_named_by_itself.Goals as goal

pub returns-in-Ended-clause-runs : goal.returns-in-Ended-clause-runs
returns-in-Ended-clause-runs g c scope held =
    let rules : Rules _ _ = under g.H.Host.name_of c.args.session.now g.T.NativeTable.natives in
    dispatched_ends rules c.args.pos (plainly (natives_alone c.args.name.now) false)
    (record (call_of (operation_named c.args.name.now c.args.pos) c.args.args.now) { marks = true })
    (state_of (g.T.NativeTable.state c.args.table.now) c.args.global.now scope held)
    (state_of (g.T.NativeTable.state c.pass_all.new.table) c.pass_all.new.global scope held)
    c.in-Ended.result (rw c.natives_alone-alone.ensures at (c.in-Ended.ensures.runs scope held false))

pub returns-in-Enters-clause-runs : goal.returns-in-Enters-clause-runs
returns-in-Enters-clause-runs g c scope held =
    let rules : Rules _ _ = under g.H.Host.name_of c.args.session.now g.T.NativeTable.natives in
    named_enters_alone rules c.args.pos c.args.name.now c.args.args.now
    (state_of (g.T.NativeTable.state c.args.table.now) c.args.global.now scope held)
    (state_of (g.T.NativeTable.state c.pass_all.new.table) c.pass_all.new.global scope held)
    c.in-Enters.function c.enter_by_itself.result
    (rw c.natives_alone-alone.ensures at (c.in-Enters.ensures.runs scope held false))
    (rw c.in-Enters.ensures.same at c.enter_by_itself.ensures)
