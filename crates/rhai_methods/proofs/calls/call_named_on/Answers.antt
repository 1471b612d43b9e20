use Rattle.std.proofs.Common.{Some, false, refl}
use Rattle.rhai_machine.specs.language.Setting.{Rules}
use Rattle.rhai_machine.specs.language.Frames.{FromFocus}
use Rattle.rhai_machine.specs.language.Arguments.{operation_named}
use Rattle.rhai_machine.specs.language.Methods.{as_method, on_focus}
use Rattle.rhai_steps.specs.Sessions.{under}
use Rattle.rhai_steps.specs.States.{state_of}
use Rattle.rhai_steps.specs.OnFocus.{lending}
use Rattle.rhai_methods.proofs.Going.{dispatched_ends, named_enters_on}
use Rattle.rhai_methods.proofs.calls.call_named_on.Goals as goal

pub returns-in-Ended-clause-runs : goal.returns-in-Ended-clause-runs
returns-in-Ended-clause-runs g c scope held =
    let rules : Rules _ _ = under g.H.Host.name_of c.args.session.now g.T.NativeTable.natives in
    dispatched_ends rules c.args.operation.now.at (as_method c.args.natives_alone)
    (on_focus (operation_named c.args.operation.now.name.now c.args.operation.now.at) c.args.args.now c.args.target.now)
    (state_of (g.T.NativeTable.state c.args.table.now) c.args.global.now scope (lending held c.args.target.now))
    (state_of (g.T.NativeTable.state c.pass_call.new.table) c.pass_call.new.global scope (lending held c.pass_call.new.first))
    c.in-Ended.result (c.in-Ended.ensures.runs scope (lending held c.args.target.now) (Some FromFocus) false refl)

pub returns-in-Enters-clause-runs : goal.returns-in-Enters-clause-runs
returns-in-Enters-clause-runs g c scope held =
    let rules : Rules _ _ = under g.H.Host.name_of c.args.session.now g.T.NativeTable.natives in
    named_enters_on rules c.args.operation.now.at c.args.operation.now.name.now c.args.args.now
    (state_of (g.T.NativeTable.state c.args.table.now) c.args.global.now scope (lending held c.args.target.now))
    (state_of (g.T.NativeTable.state c.pass_call.new.table) c.pass_call.new.global scope (lending held c.pass_call.new.first))
    c.in-Enters.function c.on_target.result c.args.natives_alone c.args.target.now
    (c.in-Enters.ensures.runs scope (lending held c.args.target.now) (Some FromFocus) false refl)
    (rw c.new.ensures at c.on_target.ensures)
