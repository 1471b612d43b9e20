use Rattle.rhai_machine.specs.machine.Memory.{◌⨾◌}
use Rattle.rhai_machine.specs.language.Runs.{Goes}
use Rattle.rhai_machine.specs.language.Setting.{Rules}
use Rattle.rhai_steps.specs.Sessions.{under}
use Rattle.rhai_steps.specs.States.{state_of}
use Rattle.rhai_calls.proofs.Lent.{back_same}
use Rattle.rhai_calls.proofs.NativeCalls.{charges_call, exits_telling, refuses_call, still_stands}
use Rattle.rhai_calls.proofs.native.pass_native.Goals as goal

pub returns-in_err-track_operation-clause-runs : goal.returns-in_err-track_operation-clause-runs
unfolding Goes
returns-in_err-track_operation-clause-runs g c scope held lender stands =
    let rules : Rules _ _ = under g.H.Host.name_of c.args.session.now g.T.NativeTable.natives in
    rw (back_same lender c.args.first.now
    (state_of (g.T.NativeTable.state c.args.table.now) c.track_operation.new.global scope held)
    (still_stands lender c.args.first.now c.args.global.now c.track_operation.new.global scope held stands))
    (exits_telling rules _ _ _ _ _ c.from_residual.ensures (λ k.
    refuses_call rules _ c.args.global.now c.track_operation.new.global scope held _ _
    c.in_err-track_operation.ensures.full c.in_err-track_operation.ensures.refused c.in_err-track_operation.ensures.same k))

pub returns-clause-runs : goal.returns-clause-runs
unfolding Goes
returns-clause-runs g c scope held lender stands k =
    let rules : Rules _ _ = under g.H.Host.name_of c.args.session.now g.T.NativeTable.natives in
    charges_call rules _ c.args.global.now c.track_operation.new.global scope held _ c.in_ok-track_operation.ensures.room
    c.in_ok-track_operation.ensures.charged k
    ⨾ c.call_first.ensures.runs scope held lender
    (still_stands lender c.args.first.now c.args.global.now c.track_operation.new.global scope held stands) k
