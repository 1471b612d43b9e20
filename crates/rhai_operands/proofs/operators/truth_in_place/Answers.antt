use Rattle.std.proofs.Common.{◌≡◌, refl, sym}
use Rattle.rhai_tree.specs.declared.expr.Expr.{out-Expr}
use Rattle.rhai_tree.specs.declared.expr.Expr.TheVariants as exprs
use Rattle.rhai_tree.specs.declared.expr.Expr.TheOpen as layer
use Rattle.rhai_state.specs.Scope.{entries_of}
use Rattle.rhai_steps.specs.Sessions.{under}
use Rattle.rhai_steps.proofs.Agreeing.{brings}
use Rattle.rhai_context.specs.Ends.{error_in}
use Rattle.rhai_operands.specs.Standing.{standing}
use Rattle.rhai_operands.proofs.Names.{call_resolves}
use Rattle.rhai_operands.proofs.Conditions.{from_same, test_refused, test_left_refused, test_right_refused, test_holds, test_holds_at_once}
use Rattle.rhai_operands.proofs.InPlace.{compared_stands, two_args}
use Rattle.rhai_operands.proofs.operators.truth_in_place.Goals as goal

pub compare_in_place-requires-clause-resolves_left : goal.compare_in_place-requires-clause-resolves_left
compare_in_place-requires-clause-resolves_left g c = brings (λ frame h. (call_resolves c.args.test.now c.in-FnCall.call c.in-FnCall.pos
    c.in_ok-left.left.now c.in_ok-left.right.now frame (rw (c.in-FnCall.is, exprs.outs-FnCall) refl)
    (two_args _ _ _ c.in_ok-left.ensures) h).0) c.requires

pub compare_in_place-requires-clause-resolves_right : goal.compare_in_place-requires-clause-resolves_right
compare_in_place-requires-clause-resolves_right g c = brings (λ frame h. (call_resolves c.args.test.now c.in-FnCall.call c.in-FnCall.pos
    c.in_ok-left.left.now c.in_ok-left.right.now frame (rw (c.in-FnCall.is, exprs.outs-FnCall) refl)
    (two_args _ _ _ c.in_ok-left.ensures) h).1) c.requires

pub returns-then-not-charge-clause-runs : goal.returns-then-not-charge-clause-runs
returns-then-not-charge-clause-runs g c held fast =
    let rules = under g.H.Host.name_of c.args.session.now g.T.NativeTable.natives in
    let form : out-Expr c.args.test.now ≡ layer.Expr::FnCall c.in-FnCall.call c.in-FnCall.pos = rw (c.in-FnCall.is, exprs.outs-FnCall)
    refl in
    let seen = compared_stands c.in_ok-token.token (standing (out-Expr c.in_ok-left.left.now) (entries_of c.args.scope.now))
    (standing (out-Expr c.in_ok-left.right.now) (entries_of c.args.scope.now)) c.in_ok-holds.holds (sym c.in_ok-holds.ensures) in
    from_same rules (g.T.NativeTable.state c.args._table.now) c.args.scope.now held c.args.test.now c.args.global.now
    c.charge_all.new.global c.charge.new.global _ (c.charge_all.ensures.same c.if-charge_all.false) (
    test_refused rules (g.T.NativeTable.state c.args._table.now) c.args.scope.now held c.args.test.now c.in-FnCall.call
    c.in_ok-token.token
    c.in_ok-left.left.now c.in_ok-left.right.now c.in-FnCall.pos seen.0 seen.1 fast form c.in_ok-token.was
    (two_args _ _ _ c.in_ok-left.ensures) seen.2 seen.3 c.charge_all.new.global c.charge.new.global
    (error_in c.charge.new.place) (c.if-not-charge.ensures.full refl)
    (c.if-not-charge.ensures.refused refl) (c.if-not-charge.ensures.same refl))

pub returns-then-not-charge-2-clause-runs : goal.returns-then-not-charge-2-clause-runs
returns-then-not-charge-2-clause-runs g c held fast =
    let rules = under g.H.Host.name_of c.args.session.now g.T.NativeTable.natives in
    let form : out-Expr c.args.test.now ≡ layer.Expr::FnCall c.in-FnCall.call c.in-FnCall.pos = rw (c.in-FnCall.is, exprs.outs-FnCall)
    refl in
    let seen = compared_stands c.in_ok-token.token (standing (out-Expr c.in_ok-left.left.now) (entries_of c.args.scope.now))
    (standing (out-Expr c.in_ok-left.right.now) (entries_of c.args.scope.now)) c.in_ok-holds.holds (sym c.in_ok-holds.ensures) in
    from_same rules (g.T.NativeTable.state c.args._table.now) c.args.scope.now held c.args.test.now c.args.global.now
    c.charge_all.new.global c.charge-2.new.global _ (c.charge_all.ensures.same c.if-charge_all.false) (
    test_left_refused rules (g.T.NativeTable.state c.args._table.now) c.args.scope.now held c.args.test.now c.in-FnCall.call
    c.in_ok-token.token c.in_ok-left.left.now c.in_ok-left.right.now c.in-FnCall.pos seen.0 seen.1 fast form c.in_ok-token.was
    (two_args _ _ _ c.in_ok-left.ensures) seen.2 seen.3 c.charge_all.new.global c.charge.new.global
    (c.if-not-charge.ensures.room refl) (c.if-not-charge.ensures.charged refl) c.charge-2.new.global
    (error_in c.charge-2.new.place) (c.if-not-charge-2.ensures.full refl) (rw c.position.ensures
    at (c.if-not-charge-2.ensures.refused refl))
    (c.if-not-charge-2.ensures.same refl))

pub returns-then-not-charge-3-clause-runs : goal.returns-then-not-charge-3-clause-runs
returns-then-not-charge-3-clause-runs g c held fast =
    let rules = under g.H.Host.name_of c.args.session.now g.T.NativeTable.natives in
    let form : out-Expr c.args.test.now ≡ layer.Expr::FnCall c.in-FnCall.call c.in-FnCall.pos = rw (c.in-FnCall.is, exprs.outs-FnCall)
    refl in
    let seen = compared_stands c.in_ok-token.token (standing (out-Expr c.in_ok-left.left.now) (entries_of c.args.scope.now))
    (standing (out-Expr c.in_ok-left.right.now) (entries_of c.args.scope.now)) c.in_ok-holds.holds (sym c.in_ok-holds.ensures) in
    from_same rules (g.T.NativeTable.state c.args._table.now) c.args.scope.now held c.args.test.now c.args.global.now
    c.charge_all.new.global c.charge-3.new.global _ (c.charge_all.ensures.same c.if-charge_all.false) (
    test_right_refused rules (g.T.NativeTable.state c.args._table.now) c.args.scope.now held c.args.test.now c.in-FnCall.call
    c.in_ok-token.token c.in_ok-left.left.now c.in_ok-left.right.now c.in-FnCall.pos seen.0 seen.1 fast form c.in_ok-token.was
    (two_args _ _ _ c.in_ok-left.ensures) seen.2 seen.3 c.charge_all.new.global c.charge.new.global
    (c.if-not-charge.ensures.room refl) (c.if-not-charge.ensures.charged refl) c.charge-2.new.global
    (c.if-not-charge-2.ensures.room refl) (c.if-not-charge-2.ensures.charged refl) c.charge-3.new.global
    (error_in c.charge-3.new.place) (c.if-not-charge-3.ensures.full refl)
    (rw c.position-2.ensures at c.if-not-charge-3.ensures.refused refl) (c.if-not-charge-3.ensures.same refl))

pub returns-clause-runs : goal.returns-clause-runs
returns-clause-runs g c held fast =
    let rules = under g.H.Host.name_of c.args.session.now g.T.NativeTable.natives in
    let form : out-Expr c.args.test.now ≡ layer.Expr::FnCall c.in-FnCall.call c.in-FnCall.pos = rw (c.in-FnCall.is, exprs.outs-FnCall)
    refl in
    let seen = compared_stands c.in_ok-token.token (standing (out-Expr c.in_ok-left.left.now) (entries_of c.args.scope.now))
    (standing (out-Expr c.in_ok-left.right.now) (entries_of c.args.scope.now)) c.in_ok-holds.holds (sym c.in_ok-holds.ensures) in
    from_same rules (g.T.NativeTable.state c.args._table.now) c.args.scope.now held c.args.test.now c.args.global.now
    c.charge_all.new.global c.charge-3.new.global _ (c.charge_all.ensures.same c.if-charge_all.false) (
    test_holds rules (g.T.NativeTable.state c.args._table.now) c.args.scope.now held c.args.test.now c.in-FnCall.call
    c.in_ok-token.token c.in_ok-left.left.now c.in_ok-left.right.now c.in-FnCall.pos seen.0 seen.1 fast form c.in_ok-token.was
    (two_args _ _ _ c.in_ok-left.ensures) seen.2 seen.3 c.charge_all.new.global c.charge.new.global
    (c.if-not-charge.ensures.room refl) (c.if-not-charge.ensures.charged refl) c.charge-2.new.global
    (c.if-not-charge-2.ensures.room refl) (c.if-not-charge-2.ensures.charged refl) c.charge-3.new.global
    (c.if-not-charge-3.ensures.room refl) (c.if-not-charge-3.ensures.charged refl) c.in_ok-holds.holds seen.4)

pub returns-then-charge_all-clause-runs : goal.returns-then-charge_all-clause-runs
returns-then-charge_all-clause-runs g c held fast =
    let rules = under g.H.Host.name_of c.args.session.now g.T.NativeTable.natives in
    let form : out-Expr c.args.test.now ≡ layer.Expr::FnCall c.in-FnCall.call c.in-FnCall.pos = rw (c.in-FnCall.is, exprs.outs-FnCall)
    refl in
    let seen = compared_stands c.in_ok-token.token (standing (out-Expr c.in_ok-left.left.now) (entries_of c.args.scope.now))
    (standing (out-Expr c.in_ok-left.right.now) (entries_of c.args.scope.now)) c.in_ok-holds.holds (sym c.in_ok-holds.ensures) in
    test_holds_at_once rules (g.T.NativeTable.state c.args._table.now) c.args.scope.now held c.args.test.now c.in-FnCall.call
    c.in_ok-token.token c.in_ok-left.left.now c.in_ok-left.right.now c.in-FnCall.pos seen.0 seen.1 fast form c.in_ok-token.was
    (two_args _ _ _ c.in_ok-left.ensures) seen.2 seen.3 c.args.global.now c.charge_all.new.global
    (c.charge_all.ensures.room c.if-charge_all.true) (c.charge_all.ensures.charged c.if-charge_all.true) c.in_ok-holds.holds seen.4
