use Rattle.std.proofs.Common.{None, false}
use Rattle.rhai_machine.specs.language.Frames.{Call, Operation}
use Rattle.rhai_machine.specs.language.Setting.{Rules}
use Rattle.rhai_machine.specs.language.State.{State}
use Rattle.rhai_steps.specs.Operations.{operation_of}
use Rattle.rhai_steps.specs.Sessions.{under}
use Rattle.rhai_steps.specs.States.{state_of}
use Rattle.rhai_steps.specs.Lending.{passed_call}
use Rattle.rhai_calls.specs.declared.dispatch.Seeks.{Seeks}
use Rattle.rhai_calls.proofs.Dispatching.{ended_untold, resolved_asks, resolved_found, resolved_ends, untold_meant}
use Rattle.rhai_calls.proofs.dispatch.pass_all.Goals as goal

pub returns-in-Ended-clause-runs : goal.returns-in-Ended-clause-runs
returns-in-Ended-clause-runs g c scope held on_scope =
    let rules : Rules _ _ = under g.H.Host.name_of c.args.session.now g.T.NativeTable.natives in
    let operation : Operation = operation_of c.args.operation.now in
    let call : Call _ = passed_call operation None false c.args.marks c.args.args.now in
    let s : State _ _ = state_of (g.T.NativeTable.state c.args.table.now) c.args.global.now scope held in
    let seeks : Seeks = record { of_method = false; natives_alone = c.args.natives_alone } in
    rw c.resolve_all.ensures.same
    (resolved_ends rules seeks on_scope call s c.in-Ended.result c.tell_changed.result c.tell_changed.ensures
    (rw c.in-Ended.is at c.in-Some.ensures.resolves))

pub returns-in-Enters-clause-runs : goal.returns-in-Enters-clause-runs
returns-in-Enters-clause-runs g c scope held on_scope =
    let rules : Rules _ _ = under g.H.Host.name_of c.args.session.now g.T.NativeTable.natives in
    let operation : Operation = operation_of c.args.operation.now in
    let call : Call _ = passed_call operation None false c.args.marks c.args.args.now in
    let s : State _ _ = state_of (g.T.NativeTable.state c.args.table.now) c.args.global.now scope held in
    let seeks : Seeks = record { of_method = false; natives_alone = c.args.natives_alone } in
    rw c.resolve_all.ensures.same
    (resolved_found rules seeks on_scope call s c.in-Enters.function (rw c.in-Enters.is at c.in-Some.ensures.resolves))

pub returns-in-Ended-clause-untold : goal.returns-in-Ended-clause-untold
returns-in-Ended-clause-untold g c =
    ended_untold c.args.marks c.tell_changed.result (untold_meant c.args.marks _ c.tell_changed.result c.tell_changed.ensures)

pub returns-in-None-clause-runs : goal.returns-in-None-clause-runs
returns-in-None-clause-runs g c scope held on_scope =
    let rules : Rules _ _ = under g.H.Host.name_of c.args.session.now g.T.NativeTable.natives in
    let operation : Operation = operation_of c.args.operation.now in
    let call : Call _ = passed_call operation None false c.args.marks c.args.args.now in
    let s : State _ _ = state_of (g.T.NativeTable.state c.args.table.now) c.args.global.now scope held in
    let seeks : Seeks = record { of_method = false; natives_alone = c.args.natives_alone } in
    resolved_asks rules seeks on_scope call s (c.in-None.ensures.resolves) c.call_native_all.result
    (state_of (g.T.NativeTable.state c.call_native_all.new.table) c.call_native_all.new.global scope held)
    ((rw c.resolve_all.ensures.same at c.call_native_all.ensures.runs) scope held)
