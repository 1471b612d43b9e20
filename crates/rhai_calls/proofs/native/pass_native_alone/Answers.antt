use Rattle.rhai_machine.specs.machine.Memory.{◌⨾◌}
use Rattle.rhai_machine.specs.language.Runs.{Goes}
use Rattle.rhai_machine.specs.language.Setting.{Rules}
use Rattle.rhai_steps.specs.Sessions.{under}
use Rattle.rhai_steps.specs.States.{local_of}
use Rattle.rhai_calls.proofs.NativeCalls.{charges_call, exits_telling, refuses_call}
use Rattle.rhai_calls.proofs.native.pass_native_alone.Goals as goal

pub returns-in_err-track_operation-clause-runs : goal.returns-in_err-track_operation-clause-runs
unfolding Goes
returns-in_err-track_operation-clause-runs g c scope held =
    let rules : Rules _ _ = under g.H.Host.name_of c.args.session.now g.T.NativeTable.natives in
    exits_telling rules _ _ _ _ _ c.from_residual.ensures (λ k.
    refuses_call rules _ c.args.global.now c.track_operation.new.global scope held _ _
    c.in_err-track_operation.ensures.full c.in_err-track_operation.ensures.refused c.in_err-track_operation.ensures.same k)

pub returns-clause-runs : goal.returns-clause-runs
unfolding Goes
returns-clause-runs g c scope held k =
    let rules : Rules _ _ = under g.H.Host.name_of c.args.session.now g.T.NativeTable.natives in
    charges_call rules _ c.args.global.now c.track_operation.new.global scope held _ c.in_ok-track_operation.ensures.room
    c.in_ok-track_operation.ensures.charged k
    ⨾ c.call_alone.ensures.runs c.track_operation.new.global.num_operations (local_of c.track_operation.new.global scope held) k
