use Rattle.std.proofs.Common.{ap}
use Rattle.rhai_tree.specs.declared.expr.Expr.{out-Expr}
use Rattle.rhai_machine.specs.language.Setting.{globals_of}
use Rattle.rhai_state.specs.Scope.{entries_of}
use Rattle.rhai_steps.specs.Callers.{surroundings_of}
use Rattle.rhai_steps.proofs.Pieces.{passed}
use Rattle.rhai_eval.specs.States.{offer_of}
use Rattle.rhai_eval.proofs.Searching.{found_in_module, found_in_scope, missed_in_module}
use Rattle.rhai_eval.proofs.engine.Engine.search_namespace.Goals as goal

pub returns-then-is_behind_path-clause-found : goal.returns-then-is_behind_path-clause-found
returns-then-is_behind_path-clause-found g c =
    let global = c.args.global.now in
    rw c.spare_mut.ensures.value (found_in_module global.always_search_scope (globals_of (offer_of c.args.self.now))
    (surroundings_of global)
    (entries_of c.args.scope.now) (out-Expr c.args.expr.now) _ (c.is_behind_path.ensures.behind c.if-is_behind_path.true)
    (rw (ap globals_of c.session.ensures.offer) at c.in_ok-value.ensures.found))

pub returns-in_err-value-clause-missed : goal.returns-in_err-value-clause-missed
returns-in_err-value-clause-missed g c =
    let global = c.args.global.now in
    missed_in_module global.always_search_scope (globals_of (offer_of c.args.self.now)) (surroundings_of global) (entries_of
    c.args.scope.now)
    (out-Expr c.args.expr.now) c.from_residual.result _ (c.is_behind_path.ensures.behind c.if-is_behind_path.true)
    (passed c.from_residual.result c.from_residual.ensures) (rw (ap globals_of c.session.ensures.offer) at c.in_err-value.ensures.found)

pub value_behind-requires : goal.value_behind-requires
value_behind-requires g c = record {
  variable = c.requires.variable;
  behind = c.is_behind_path.ensures.behind c.if-is_behind_path.true;
  fits = c.requires.index;
}

pub search_scope_only-requires : goal.search_scope_only-requires
search_scope_only-requires g c = record {
  variable = c.is_behind_path.ensures.alone c.if-is_behind_path.false c.requires.variable;
  fits = c.requires.fits;
}

pub returns-clause-found : goal.returns-clause-found
returns-clause-found g c =
    let global = c.args.global.now in
    rw (found_in_scope global.always_search_scope (globals_of (offer_of c.args.self.now)) (surroundings_of global) (entries_of
    c.args.scope.now)
    (out-Expr c.args.expr.now) (c.is_behind_path.ensures.alone c.if-is_behind_path.false c.requires.variable))
    c.search_scope_only.ensures.found

pub returns-clause-missed : goal.returns-clause-missed
returns-clause-missed g c =
    let global = c.args.global.now in
    rw (found_in_scope global.always_search_scope (globals_of (offer_of c.args.self.now)) (surroundings_of global) (entries_of
    c.args.scope.now)
    (out-Expr c.args.expr.now) (c.is_behind_path.ensures.alone c.if-is_behind_path.false c.requires.variable))
    c.search_scope_only.ensures.missed
