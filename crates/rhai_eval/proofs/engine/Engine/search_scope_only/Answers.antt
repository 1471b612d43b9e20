use Rattle.std.proofs.Common.{Ok, ap, ◌∙◌}
use Rattle.rhai_tree.specs.declared.expr.Expr.{out-Expr}
use Rattle.rhai_machine.specs.language.Setting.{globals_of}
use Rattle.rhai_state.specs.Scope.{entries_of}
use Rattle.rhai_steps.specs.Callers.{surroundings_of}
use Rattle.rhai_steps.proofs.Pieces.{passed}
use Rattle.rhai_eval.specs.Search.{value_there}
use Rattle.rhai_eval.specs.States.{offer_of}
use Rattle.rhai_eval.proofs.Searching.{found_beside, found_there, missed_beside, missed_there, seen_there}
use Rattle.rhai_eval.proofs.engine.Engine.search_scope_only.Goals as goal

pub returns-then-is_there-clause-found : goal.returns-then-is_there-clause-found
returns-then-is_there-clause-found g c =
    let global = c.args.global.now in
    let there = seen_there c.seen_variable.result (value_there global.always_search_scope (out-Expr c.args.expr.now)
    (entries_of c.args.scope.now)) c.is_some-is_there.result c.seen_variable.ensures c.is_some-is_there.ensures ∙ c.if-is_there.true in
    found_there global.always_search_scope (globals_of (offer_of c.args.self.now)) (surroundings_of global) (entries_of c.args.scope.now)
    (out-Expr c.args.expr.now)
    (Ok _) there c.in_ok-at.ensures.found

pub returns-in_err-at-clause-missed : goal.returns-in_err-at-clause-missed
returns-in_err-at-clause-missed g c =
    let global = c.args.global.now in
    let there = seen_there c.seen_variable.result (value_there global.always_search_scope (out-Expr c.args.expr.now)
    (entries_of c.args.scope.now)) c.is_some-is_there.result c.seen_variable.ensures c.is_some-is_there.ensures ∙ c.if-is_there.true in
    missed_there global.always_search_scope (globals_of (offer_of c.args.self.now)) (surroundings_of global) (entries_of c.args.scope.now)
    (out-Expr c.args.expr.now)
    c.from_residual.result _ there (passed c.from_residual.result c.from_residual.ensures) c.in_err-at.ensures.missed

pub returns-clause-found : goal.returns-clause-found
returns-clause-found g c =
    let global = c.args.global.now in
    let none = seen_there c.seen_variable.result (value_there global.always_search_scope (out-Expr c.args.expr.now)
    (entries_of c.args.scope.now)) c.is_some-is_there.result c.seen_variable.ensures c.is_some-is_there.ensures ∙ c.if-is_there.false in
    rw c.spare_mut.ensures.value (found_beside global.always_search_scope (globals_of (offer_of c.args.self.now)) (surroundings_of global)
    (entries_of c.args.scope.now)
    (out-Expr c.args.expr.now) _ none (rw (ap globals_of c.session.ensures.offer) at c.in_ok-value.ensures))

pub returns-in_err-value-clause-missed : goal.returns-in_err-value-clause-missed
returns-in_err-value-clause-missed g c =
    let global = c.args.global.now in
    let none = seen_there c.seen_variable.result (value_there global.always_search_scope (out-Expr c.args.expr.now)
    (entries_of c.args.scope.now)) c.is_some-is_there.result c.seen_variable.ensures c.is_some-is_there.ensures ∙ c.if-is_there.false in
    missed_beside global.always_search_scope (globals_of (offer_of c.args.self.now)) (surroundings_of global) (entries_of c.args.scope.now)
    (out-Expr c.args.expr.now)
    c.from_residual-in_err-value.result _ none
    (passed c.from_residual-in_err-value.result c.from_residual-in_err-value.ensures)
    (rw (ap globals_of c.session.ensures.offer) at c.in_err-value.ensures)
