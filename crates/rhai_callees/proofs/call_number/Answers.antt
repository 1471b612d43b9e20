use Rattle.rhai_steps.specs.Operations.{operation_of}
use Rattle.rhai_machine.specs.language.Setting.{Rules}
use Rattle.rhai_machine.specs.language.Frames.{Operation, ToCallNumber}
use Rattle.rhai_steps.specs.Sessions.{under}
use Rattle.rhai_steps.specs.States.{state_of}
use Rattle.rhai_callees.proofs.Going.{number_joined, there_runs_out}
use Rattle.rhai_callees.proofs.call_number.Goals as goal

pub returns-in-Ok-clause-runs : goal.returns-in-Ok-clause-runs
returns-in-Ok-clause-runs g c scope held =
    let rules : Rules _ _ = under g.H.Host.name_of c.args.session.now g.T.NativeTable.natives in
    let operation : Operation = operation_of c.args.operation.now in
    number_joined rules operation c.args.curried c.args.args.now c.join.new.args c.in-Ok.ensures.joined (state_of
    (g.T.NativeTable.state c.args.table.now) c.args.global.now scope held)
    (state_of (g.T.NativeTable.state c.call_number_all.new.table) c.call_number_all.new.global scope held) c.call_number_all.result
    c.args.id.number (c.call_number_all.ensures.runs scope held)

pub returns-in-Err-clause-runs : goal.returns-in-Err-clause-runs
returns-in-Err-clause-runs g c scope held =
    let rules : Rules _ _ = under g.H.Host.name_of c.args.session.now g.T.NativeTable.natives in
    let operation : Operation = operation_of c.args.operation.now in
    there_runs_out rules (ToCallNumber c.args.id.number operation c.args.curried) c.args.args.now
    (state_of (g.T.NativeTable.state c.args.table.now) c.args.global.now scope held) c.in-Err.error c.in-Err.ensures.refused
