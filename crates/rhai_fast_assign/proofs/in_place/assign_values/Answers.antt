use Rattle.std.proofs.Common.{◌≡◌, refl}
use Rattle.rhai_tree.specs.declared.expr.Expr.{out-Expr}
use Rattle.rhai_tree.specs.declared.expr.Expr.TheVariants as exprs
use Rattle.rhai_tree.specs.declared.expr.Expr.TheOpen as layer
use Rattle.rhai_steps.specs.Sessions.{under}
use Rattle.rhai_steps.proofs.Agreeing.{brings}
use Rattle.rhai_operands.proofs.Names.{good_target}
use Rattle.rhai_fast_assign.specs.InPlace.{IsReady}
use Rattle.rhai_fast_assign.proofs.Prepared.{target_stops, updates_in_place, value_stops}
use Rattle.rhai_fast_assign.proofs.in_place.assign_values.Goals as goal

pub returns-in-Err-clause-runs : goal.returns-in-Err-clause-runs
returns-in-Err-clause-runs g c held restoring fast =
    let rules = under g.H.Host.name_of c.args.session.now g.T.NativeTable.natives in
    let ready : IsReady c.in_ok-ready.ready c.in-Variable.namespace.path c.in-Variable.name c.in-Variable.pos c.in_ok-token.token
    (out-Expr c.args.rhs.now) c.args.scope.now c.args.global.now.cells = c.in_ok-ready.ensures.ready in
    let form : out-Expr c.args.lhs.now ≡ layer.Variable c.in-Variable.offset c.in-Variable.name c.in-Variable.namespace
    c.in-Variable.pos =
    rw (c.in-Variable.is, exprs.outs-Variable) refl in
    value_stops rules (g.T.NativeTable.state c.args._table.now) c.args.scope.now held c.args.op c.args.lhs.now c.args.rhs.now
    c.in-Variable.offset
    c.in-Variable.name c.in-Variable.namespace c.in-Variable.pos restoring ready.operand form ready.given
    c.args.global.now c.track_operation.new.global c.in-Err.error c.in-Err.ensures.full
    (rw c.position.ensures at c.in-Err.ensures.refused) c.in-Err.ensures.same

pub returns-in-Err-track_operation-clause-runs : goal.returns-in-Err-track_operation-clause-runs
returns-in-Err-track_operation-clause-runs g c held restoring fast =
    let rules = under g.H.Host.name_of c.args.session.now g.T.NativeTable.natives in
    let ready : IsReady c.in_ok-ready.ready c.in-Variable.namespace.path c.in-Variable.name c.in-Variable.pos c.in_ok-token.token
    (out-Expr c.args.rhs.now) c.args.scope.now c.args.global.now.cells = c.in_ok-ready.ensures.ready in
    let form : out-Expr c.args.lhs.now ≡ layer.Variable c.in-Variable.offset c.in-Variable.name c.in-Variable.namespace
    c.in-Variable.pos =
    rw (c.in-Variable.is, exprs.outs-Variable) refl in
    target_stops rules (g.T.NativeTable.state c.args._table.now) c.args.scope.now held c.args.op c.args.lhs.now c.args.rhs.now
    c.in-Variable.offset
    c.in-Variable.name c.in-Variable.namespace c.in-Variable.pos restoring ready.operand form ready.given
    c.args.global.now c.track_operation.new.global c.in_default-track_operation.ensures.room
    c.in_default-track_operation.ensures.charged c.track_operation-2.new.global c.in-Err-track_operation.error
    c.in-Err-track_operation.ensures.full c.in-Err-track_operation.ensures.refused c.in-Err-track_operation.ensures.same

pub returns-clause-runs : goal.returns-clause-runs
returns-clause-runs g c held restoring fast =
    let rules = under g.H.Host.name_of c.args.session.now g.T.NativeTable.natives in
    let ready : IsReady c.in_ok-ready.ready c.in-Variable.namespace.path c.in-Variable.name c.in-Variable.pos c.in_ok-token.token
    (out-Expr c.args.rhs.now) c.args.scope.now c.args.global.now.cells = c.in_ok-ready.ensures.ready in
    let form : out-Expr c.args.lhs.now ≡ layer.Variable c.in-Variable.offset c.in-Variable.name c.in-Variable.namespace
    c.in-Variable.pos =
    rw (c.in-Variable.is, exprs.outs-Variable) refl in
    updates_in_place rules (g.T.NativeTable.state c.args._table.now) c.args.scope.now held c.args.op c.args.lhs.now c.args.rhs.now
    c.in-Variable.offset
    c.in-Variable.name c.in-Variable.namespace c.in-Variable.pos restoring ready.operand form ready.given
    c.args.global.now c.track_operation.new.global c.in_default-track_operation.ensures.room
    c.in_default-track_operation.ensures.charged c.track_operation-2.new.global c.in_default-track_operation-2.ensures.room
    c.in_default-track_operation-2.ensures.charged c.in_ok-token.token c.in_ok-token.was fast c.in_ok-ready.ready.place
    c.in_ok-ready.ready.outcome c.write_outcome.result c.write_outcome.new.global c.write_outcome.new.scope ready.finds
    ready.answers.value
    c.write_outcome.ensures.counts (c.write_outcome.ensures.written held) c.write_outcome.ensures.left_global
    c.write_outcome.ensures.left_scope

pub prepare-requires-clause-good : goal.prepare-requires-clause-good
prepare-requires-clause-good g c =
    brings (λ frame. good_target c.args.lhs.now c.in-Variable.offset c.in-Variable.name c.in-Variable.namespace c.in-Variable.pos frame
    (rw (c.in-Variable.is, exprs.outs-Variable) refl)) c.requires.resolves_target
