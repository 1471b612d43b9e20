use Rattle.std.proofs.Common.{◌∷◌}
use Rattle.rhai_machine.specs.language.Frames.{Call, Operation}
use Rattle.rhai_machine.specs.language.Setting.{Rules}
use Rattle.rhai_machine.specs.language.State.{State}
use Rattle.rhai_steps.specs.Operations.{operation_of}
use Rattle.rhai_steps.specs.Sessions.{under}
use Rattle.rhai_steps.specs.States.{state_of}
use Rattle.rhai_steps.specs.Lending.{back_in, passed_call}
use Rattle.rhai_calls.proofs.Dispatching.{ended_untold, resolved_asks, resolved_found, resolved_ends, untold_meant}
use Rattle.rhai_calls.proofs.Lent.{back_same}
use Rattle.rhai_calls.proofs.dispatch.pass_call.Goals as goal

pub returns-in-Ended-clause-runs : goal.returns-in-Ended-clause-runs
returns-in-Ended-clause-runs g c scope held lender on_scope stands =
    let rules : Rules _ _ = under g.H.Host.name_of c.args.session.now g.T.NativeTable.natives in
    let operation : Operation = operation_of c.args.operation.now in
    let call : Call _ = passed_call operation lender c.args.passing.guarded c.args.passing.marks (c.args.first.now ∷ c.args.rest.now) in
    let s : State _ _ = state_of (g.T.NativeTable.state c.args.table.now) c.args.global.now scope held in
    rw (c.resolve.ensures.same, back_same lender c.args.first.now s stands)
    (resolved_ends rules c.args.seeks on_scope call s c.in-Ended.result c.tell_changed.result c.tell_changed.ensures
    (rw c.in-Ended.is at c.in-Some.ensures.resolves))

pub returns-in-Enters-clause-runs : goal.returns-in-Enters-clause-runs
returns-in-Enters-clause-runs g c scope held lender on_scope stands =
    let rules : Rules _ _ = under g.H.Host.name_of c.args.session.now g.T.NativeTable.natives in
    let operation : Operation = operation_of c.args.operation.now in
    let call : Call _ = passed_call operation lender c.args.passing.guarded c.args.passing.marks (c.args.first.now ∷ c.args.rest.now) in
    let s : State _ _ = state_of (g.T.NativeTable.state c.args.table.now) c.args.global.now scope held in
    rw (c.resolve.ensures.same, back_same lender c.args.first.now s stands)
    (resolved_found rules c.args.seeks on_scope call s c.in-Enters.function
    (rw c.in-Enters.is at c.in-Some.ensures.resolves))

pub returns-in-Ended-clause-untold : goal.returns-in-Ended-clause-untold
returns-in-Ended-clause-untold g c =
    ended_untold c.args.passing.marks c.tell_changed.result
    (untold_meant c.args.passing.marks _ c.tell_changed.result c.tell_changed.ensures)

pub returns-in-None-clause-runs : goal.returns-in-None-clause-runs
returns-in-None-clause-runs g c scope held lender on_scope stands =
    let rules : Rules _ _ = under g.H.Host.name_of c.args.session.now g.T.NativeTable.natives in
    let operation : Operation = operation_of c.args.operation.now in
    let call : Call _ = passed_call operation lender c.args.passing.guarded c.args.passing.marks (c.args.first.now ∷ c.args.rest.now) in
    let s : State _ _ = state_of (g.T.NativeTable.state c.args.table.now) c.args.global.now scope held in
    resolved_asks rules c.args.seeks on_scope call s (c.in-None.ensures.resolves) c.pass_native.result
    (back_in lender c.pass_native.new.first (state_of (g.T.NativeTable.state c.pass_native.new.table) c.pass_native.new.global scope held))
    ((rw c.resolve.ensures.same at c.pass_native.ensures.runs) scope held lender stands)
