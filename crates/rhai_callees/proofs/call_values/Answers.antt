use Rattle.std.proofs.Common.{◌++◌, ap, sym}
use Rattle.rhai_machine.specs.language.Calls.{plainly}
use Rattle.rhai_machine.specs.language.Setting.{Rules}
use Rattle.rhai_machine.specs.language.Frames.{Operation}
use Rattle.rhai_steps.specs.Operations.{operation_of}
use Rattle.rhai_steps.specs.Sessions.{under}
use Rattle.rhai_steps.specs.States.{state_of}
use Rattle.rhai_calls.specs.Called.{with_args}
use Rattle.rhai_callees.proofs.Going.{calls_joined}
use Rattle.rhai_callees.proofs.call_values.Goals as goal

pub returns-then-is_empty-clause-runs : goal.returns-then-is_empty-clause-runs
returns-then-is_empty-clause-runs g c scope held on_scope =
    let rules : Rules _ _ = under g.H.Host.name_of c.args.session.now g.T.NativeTable.natives in
    let operation : Operation = operation_of c.args.operation.now in
    calls_joined rules operation c.args.curried c.args.args.now c.args.args.now
    (sym (ap (λ xs. xs ++ c.args.args.now) (c.is_empty.ensures.0 c.if-is_empty.true)))
    (state_of (g.T.NativeTable.state c.args.table.now) c.args.global.now scope held)
    (state_of (g.T.NativeTable.state c.call_all.new.table) c.call_all.new.global scope held)
    (plainly c.args.natives_alone on_scope) (with_args c.call_all.result c.call_all.new.args)
    (c.call_all.ensures.runs scope held on_scope)
