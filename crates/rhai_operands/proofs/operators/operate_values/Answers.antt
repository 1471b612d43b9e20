use Rattle.std.proofs.Common.{◌≡◌, Some, sym}
use Rattle.rhai_tree.specs.declared.expr.Expr.{out-Expr}
use Rattle.rhai_state.specs.Scope.{entries_of}
use Rattle.rhai_machine.specs.language.Runs.{Goes}
use Rattle.rhai_steps.specs.Sessions.{under}
use Rattle.rhai_operands.specs.Standing.{standing}
use Rattle.rhai_operands.proofs.InPlace.{left_refused, right_refused, operates}
use Rattle.rhai_operands.proofs.operators.operate_values.Goals as goal

pub returns-in-Err-clause-runs : goal.returns-in-Err-clause-runs
unfolding Goes
returns-in-Err-clause-runs g c held fast k =
    let rules = under g.H.Host.name_of c.args.session.now g.T.NativeTable.natives in
    left_refused rules (g.T.NativeTable.state c.args._table.now) c.args.scope.now held c.args.binary.call.now c.args.binary.token
    c.args.binary.left.now
    c.args.binary.right.now c.args.binary.at _ _ k fast c.requires.token c.requires.args
    (sym c.in_ok-first.ensures) (sym c.in_ok-second.ensures) c.args.global.now c.track_operation.new.global c.in-Err.error
    c.in-Err.ensures.full (rw c.position.ensures at c.in-Err.ensures.refused) c.in-Err.ensures.same

pub returns-in-Err-track_operation-clause-runs : goal.returns-in-Err-track_operation-clause-runs
unfolding Goes
returns-in-Err-track_operation-clause-runs g c held fast k =
    let rules = under g.H.Host.name_of c.args.session.now g.T.NativeTable.natives in
    right_refused rules (g.T.NativeTable.state c.args._table.now) c.args.scope.now held c.args.binary.call.now c.args.binary.token
    c.args.binary.left.now
    c.args.binary.right.now c.args.binary.at _ _ k fast c.requires.token c.requires.args
    (sym c.in_ok-first.ensures) (sym c.in_ok-second.ensures) c.args.global.now c.track_operation.new.global
    c.track_operation-2.new.global c.in_default.ensures.room c.in_default.ensures.charged c.in-Err-track_operation.error
    c.in-Err-track_operation.ensures.full (rw c.position-2.ensures at c.in-Err-track_operation.ensures.refused)
    c.in-Err-track_operation.ensures.same

pub returns-clause-runs : goal.returns-clause-runs
unfolding Goes
returns-clause-runs g c held fast k =
    let rules = under g.H.Host.name_of c.args.session.now g.T.NativeTable.natives in
    let left : standing (out-Expr c.args.binary.left.now) (entries_of c.args.scope.now) ≡ Some c.value.result.now =
    rw c.value.ensures (sym c.in_ok-first.ensures) in
    let right : standing (out-Expr c.args.binary.right.now) (entries_of c.args.scope.now) ≡ Some c.value-2.result.now =
    rw c.value-2.ensures (sym c.in_ok-second.ensures) in
    operates rules (g.T.NativeTable.state c.args._table.now) c.args.scope.now held c.args.binary.call.now c.args.binary.token
    c.args.binary.left.now
    c.args.binary.right.now c.args.binary.at _ _ k fast c.requires.token c.requires.args
    left right c.args.global.now c.track_operation.new.global c.track_operation-2.new.global
    c.in_default.ensures.room c.in_default.ensures.charged c.in_default-track_operation.ensures.room
    c.in_default-track_operation.ensures.charged c.builtin_binary.result c.in_ok-outcome.outcome c.applied.result
    c.builtin_binary.ensures.value c.in_ok-outcome.was c.applied.ensures
