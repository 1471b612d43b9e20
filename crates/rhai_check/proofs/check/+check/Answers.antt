use Rattle.std.proofs.Common.{◌≡◌, ap, ◌∙◌, sym, rules, refl, [], true, false, IsTrue, length, ◌&&◌}
use Rattle.rhai_tree.specs.declared.expr.Expr.TheOpen as layer
use Rattle.rhai_tree.specs.declared.expr.Expr.TheVariants.{outs-Variable, outs-Or, outs-Dot, outs-Index, outs-DynamicConstant}
use Rattle.rhai_tree.specs.declared.expr.Expr.TheVariants.{outs-BoolConstant, outs-IntegerConstant, outs-CharConstant}
use Rattle.rhai_tree.specs.declared.expr.Expr.TheVariants.{outs-StringConstant, outs-Unit, outs-ThisPtr}
use Rattle.rhai_tree.specs.declared.expr.Stmt.TheVariants.{outs-If, outs-Noop, outs-Export, outs-While, outs-Assignment, outs-Switch}
use Rattle.rhai_tree.specs.declared.expr.Stmt.TheVariants.{outs-For}
use Rattle.rhai_tree.specs.declared.expr.Stmt.TheVariants.{outs-TryCatch, outs-Var, outs-Import}
use Rattle.rhai_check.specs.Around.{above, around, cut}
use Rattle.rhai_tree.specs.Frame.{tests_of, resolves_expr, dot_resolves, name_resolves, bracket_resolves}
use Rattle.rhai_tree.specs.Frame.{resolves_block, turns_resolve, catch_resolves, var_resolves}
use Rattle.rhai_check.specs.MemoryNeeds.{names_a_catch}
use Rattle.rhai_check.specs.Refusals.{Refuses}
use Rattle.rhai_check.specs.declared.check.place.Place.{Place}
use Rattle.rhai_tree.specs.Cases.{is_switch}
use Rattle.rhai_tree.specs.Forms.{ends_chain, catch_of, name_asked, is_eval_call}
use Rattle.rhai_tree.specs.Reading.{faulty, sound}
use Rattle.rhai_tree.specs.WellFormed.{seen_expr, seen_block, dot_faults, catch_variable_faults, variable_faults}
use Rattle.rhai_tree.specs.Names.{Frame}
use Rattle.std.proofs.lemmas.List.{append-nil}
use Rattle.rhai_check.proofs.Chains.{bracket_same, bracket_last, bracket_apart, bracket_runs, named_alone, named_apart, and_true}
use Rattle.rhai_check.proofs.Chains.{passes_as, runs_as, refused_as}
use Rattle.rhai_check.proofs.Chains.{chain_passes, chain_runs, chain_refused, rest_refused}
use Rattle.rhai_check.proofs.Outcome.{given_ok, ok_then, err_then, runs_at, exact_expr_at, exact_stmt_at, resolved_expr_at}
use Rattle.rhai_check.proofs.Outcome.{resolved_stmt_at, refused_expr_at, target_refused, value_of_var_refused, var_passes, var_runs}
use Rattle.rhai_check.proofs.Outcome.{control_passes, control_refused, loop_passes, import_passes, import_runs}
use Rattle.rhai_check.proofs.Refused.{refused, refuses_expr, refuses_stmt, refuses_first, refuses_later}
use Rattle.rhai_check.proofs.Refused.{refuses_more, refuses_front, refuses_behind, refuses_memory}
use Rattle.rhai_check.proofs.Scopes.{continues_same, restored, turned, turn_back, turn_passes, turn_runs, turn_refused, caught_back}
use Rattle.rhai_check.proofs.Scopes.{branch_passes, branch_runs, branch_refused, catch_same, catch_refused, continues_var, continues_import}
use Rattle.rhai_check.proofs.Switches.{refuses_conditional, switch_bad, value_refused, parts_refused, switch_passes, switch_runs}
use Rattle.rhai_check.proofs.Outcome.{runs_stmt_at, both_run}
use Rattle.rhai_check.proofs.Counted.{counted_runs}
use Rattle.rhai_check.proofs.Walk.{refuses_expr_at, refuses_stmt_at, declares-expr}
use Rattle.rhai_tree.proofs.Walk.{resolves-stmt}
use Rattle.rhai_check.proofs.MapKeys.{map_passes, map_runs, map_refused, keys_refused}
use Rattle.rhai_check.proofs.check.+check.Goals as goal
use Rattle.rhai_check.proofs.Calls.{call_refused, call_runs}

pub expr::check_exprs-returns-in_err-check_expr-clause-refused : goal.expr::check_exprs-returns-in_err-check_expr-clause-refused
expr::check_exprs-returns-in_err-check_expr-clause-refused t c =
    refused _ _ _ _ c.from_residual.ensures
    (refuses_expr c.args.exprs.now c.each.expr-index c.expr-item.result (around c.args.declared.now c.args.place) _ c.each-test.true
    c.expr-item.is
    c.each.invariant.faults c.each.invariant.declares (rw c.each.invariant.same at c.in_err-check_expr.ensures.refused))

pub stmt::check_statements-returns-in_err-check_stmt-clause-refused : goal.stmt::check_statements-returns-in_err-check_stmt-clause-refused
stmt::check_statements-returns-in_err-check_stmt-clause-refused t c =
    refused _ _ _ _ c.from_residual.ensures
    (refuses_stmt c.args.statements.now c.each.statement-index c.statement-item.result (around c.args.declared.now c.args.place)
    (around c.each.declared c.args.place) _
    c.each-test.true c.statement-item.is c.each.invariant.faults c.each.invariant.declares c.in_err-check_stmt.ensures.refused)

pub stmt::check_stmt-returns-in_err-check_expr-in-If-clause-refused : goal.stmt::check_stmt-returns-in_err-check_expr-in-If-clause-refused
stmt::check_stmt-returns-in_err-check_expr-in-If-clause-refused t c =
    refused _ _ _ _ c.from_residual.ensures
    (refuses_stmt_at c.args.stmt.now (layer.If c.in-If.expr c.in-If.body c.in-If.branch c.in-If.field-3)
    (around c.args.declared.now c.args.place) _
    (rw (c.in-If.is, outs-If) refl)
    (refuses_first _ _ _ _ _ c.in_err-check_expr-in-If.ensures.refused))

pub stmt::check_stmt-returns-in-Noop-clause-resolved : goal.stmt::check_stmt-returns-in-Noop-clause-resolved
stmt::check_stmt-returns-in-Noop-clause-resolved t c base =
    ap (λ v. v (above base c.args.declared.now)) (resolves-stmt c.args.stmt.now (layer.Noop c.in-Noop.field-0)
    (rw (c.in-Noop.is, outs-Noop) refl))

pub stmt::check_stmt-returns-in-Export-clause-resolved : goal.stmt::check_stmt-returns-in-Export-clause-resolved
stmt::check_stmt-returns-in-Export-clause-resolved t c base =
    ap (λ v. v (above base c.args.declared.now)) (resolves-stmt c.args.stmt.now
    (layer.Export c.in-Export.field-0 c.in-Export.field-1 c.in-Export.field-2) (rw (c.in-Export.is, outs-Export) refl))

pub stmt::check_stmt-returns-in_err-check_block-in-If-clause-refused : goal.stmt::check_stmt-returns-in_err-check_block-in-If-clause-refused
stmt::check_stmt-returns-in_err-check_block-in-If-clause-refused t c =
    refused _ _ _ _ c.from_residual-in_err-check_block-in-If.ensures
    (refuses_stmt_at c.args.stmt.now (layer.If c.in-If.expr c.in-If.body c.in-If.branch c.in-If.field-3)
    (around c.args.declared.now c.args.place) _
    (rw (c.in-If.is, outs-If) refl)
    (refuses_later _ _ _ _ _ c.in_ok-check_expr-in-If.ensures.exact
    (refuses_first _ _ _ _ _ (rw c.in_ok-check_expr-in-If.ensures.same at c.in_err-check_block-in-If.ensures.refused))))

pub stmt::check_stmt-returns-in_err-check_expr-in-While-clause-refused :
    goal.stmt::check_stmt-returns-in_err-check_expr-in-While-clause-refused
stmt::check_stmt-returns-in_err-check_expr-in-While-clause-refused t c =
    refused _ _ _ _ c.from_residual-in_err-check_expr-in-While.ensures
    (refuses_stmt_at c.args.stmt.now (layer.While c.in-While.expr c.in-While.body c.in-While.field-2)
    (around c.args.declared.now c.args.place) _ (rw (c.in-While.is, outs-While) refl)
    (refuses_first _ _ _ _ _ c.in_err-check_expr-in-While.ensures.refused))

pub stmt::check_stmt-returns-in_ok-check_expr-in-While-clause-exact : goal.stmt::check_stmt-returns-in_ok-check_expr-in-While-clause-exact
stmt::check_stmt-returns-in_ok-check_expr-in-While-clause-exact t c =
    exact_stmt_at _ c.args.stmt.now (layer.While c.in-While.expr c.in-While.body c.in-While.field-2)
    (around c.args.declared.now c.args.place) _ (rw (c.in-While.is, outs-While) refl)
    (loop_passes _ _ _ c.args.place c.args.declared.now _ c.in_ok-check_expr-in-While.ensures.exact
    (rw (c.in_ok-check_expr-in-While.ensures.same, c.looping.ensures) at c.check_block-in-While.ensures.exact)
    (rw c.in_ok-check_expr-in-While.ensures.same at c.check_block-in-While.ensures.same))

pub stmt::check_stmt-returns-in_ok-check_expr-in-While-clause-refused :
    goal.stmt::check_stmt-returns-in_ok-check_expr-in-While-clause-refused
stmt::check_stmt-returns-in_ok-check_expr-in-While-clause-refused t c =
    err_then _ (λ e h. refuses_stmt_at c.args.stmt.now (layer.While c.in-While.expr c.in-While.body c.in-While.field-2)
    (around c.args.declared.now c.args.place) e (rw (c.in-While.is, outs-While) refl)
    (refuses_later _ _ _ _ e c.in_ok-check_expr-in-While.ensures.exact h))
    (rw (c.in_ok-check_expr-in-While.ensures.same, c.looping.ensures) at c.check_block-in-While.ensures.refused)

pub stmt::check_var-returns-in_err-check_declaration-clause-refused :
    goal.stmt::check_var-returns-in_err-check_declaration-clause-refused
stmt::check_var-returns-in_err-check_declaration-clause-refused t c =
    refused _ _ _ _ c.from_residual.ensures (refuses_more _ _ false true _ (λ k. k) (λ k. refl)
    (c.in_err-check_declaration.ensures.refused (seen_expr c.args.expr.now)))

pub stmt::check_var-returns-in_err-check_expr-clause-refused : goal.stmt::check_var-returns-in_err-check_expr-clause-refused
stmt::check_var-returns-in_err-check_expr-clause-refused t c =
    refused _ _ _ _ c.from_residual-in_err-check_expr.ensures
    (value_of_var_refused (seen_expr c.args.expr.now) c.args.index c.args.ident.now c.args.options c.args.pos
    (around c.args.declared.now c.args.place) _ _
    (c.in_ok-check_declaration.ensures.exact (seen_expr c.args.expr.now))
    c.in_err-check_expr.ensures.refused)

pub stmt::check_var-returns-clause-added : goal.stmt::check_var-returns-clause-added
stmt::check_var-returns-clause-added t c = rw c.in_ok-check_expr.ensures.same at c.declare_var.ensures.added

pub stmt::check_var-returns-clause-exact : goal.stmt::check_var-returns-clause-exact
stmt::check_var-returns-clause-exact t c =
    given_ok _ ((c.in_ok-check_declaration.ensures.exact (seen_expr c.args.expr.now))
    ∙ c.in_ok-check_expr.ensures.exact)

pub stmt::check_var-returns-clause-resolved : goal.stmt::check_var-returns-clause-resolved
stmt::check_var-returns-clause-resolved t c =
    let runs : (base : Frame) → IsTrue (var_resolves c.args.index c.args.ident.now (tests_of c.args.expr.now) c.args.options c.args.pos
    (above base c.args.declared.now)) = λ base.
    c.in_ok-check_declaration.ensures.resolved base (tests_of c.args.expr.now)
    ∙ c.in_ok-check_expr.ensures.resolved base in
    given_ok _ runs

pub stmt::check_stmt-returns-in-Var-clause-begins : goal.stmt::check_stmt-returns-in-Var-clause-begins
stmt::check_stmt-returns-in-Var-clause-begins t c =
    ok_then _ (continues_var c.in-Var.index c.in-Var.ident.name c.args.declared.now c.check_var.new.declared) c.check_var.ensures.added

pub stmt::check_stmt-returns-in-Var-clause-exact : goal.stmt::check_stmt-returns-in-Var-clause-exact
stmt::check_stmt-returns-in-Var-clause-exact t c =
    exact_stmt_at _ c.args.stmt.now (layer.Var c.in-Var.ident c.in-Var.expr c.in-Var.index c.in-Var.options c.in-Var.pos)
    (around c.args.declared.now c.args.place) _ (rw (c.in-Var.is, outs-Var) refl)
    (var_passes _ _ c.in-Var.index c.in-Var.ident.name c.args.place c.args.declared.now c.check_var.new.declared
    c.check_var.ensures.exact
    c.check_var.ensures.added)

pub stmt::check_stmt-returns-in-Var-clause-resolved : goal.stmt::check_stmt-returns-in-Var-clause-resolved
stmt::check_stmt-returns-in-Var-clause-resolved t c =
    resolved_stmt_at _ c.args.stmt.now (layer.Var c.in-Var.ident c.in-Var.expr c.in-Var.index c.in-Var.options c.in-Var.pos)
    c.args.declared.now _ (rw (c.in-Var.is, outs-Var) refl)
    (var_runs _ (var_resolves c.in-Var.index c.in-Var.ident (tests_of c.in-Var.expr) c.in-Var.options c.in-Var.pos)
    c.in-Var.index c.in-Var.ident.name c.args.declared.now c.check_var.new.declared
    c.check_var.ensures.resolved c.check_var.ensures.added)

pub stmt::check_stmt-returns-in-Var-clause-refused : goal.stmt::check_stmt-returns-in-Var-clause-refused
stmt::check_stmt-returns-in-Var-clause-refused t c =
    err_then _ (λ e h. refuses_stmt_at c.args.stmt.now
    (layer.Var c.in-Var.ident c.in-Var.expr c.in-Var.index c.in-Var.options c.in-Var.pos)
    (around c.args.declared.now c.args.place) e (rw (c.in-Var.is, outs-Var) refl) h) c.check_var.ensures.refused

pub stmt::check_control-returns-clause-exact : goal.stmt::check_control-returns-clause-exact
stmt::check_control-returns-clause-exact t c =
    let inside : c.args.place.in_loop ≡ true = search rules in
    control_passes _ c.args.pos (around c.args.declared.now c.args.place) _ inside c.check_option.ensures.exact

pub stmt::check_control-returns-clause-refused : goal.stmt::check_control-returns-clause-refused
stmt::check_control-returns-clause-refused t c =
    let inside : c.args.place.in_loop ≡ true = search rules in
    control_refused _ c.args.pos (around c.args.declared.now c.args.place) _ _ inside c.check_option.ensures.refused

pub stmt::check_block-returns-clause-same : goal.stmt::check_block-returns-clause-same
stmt::check_block-returns-clause-same t c =
    c.truncate.ensures ∙ ap (λ m. cut m c.check_statements.new.declared) c.mark-start.ensures
    ∙ restored c.args.declared.now c.check_statements.new.declared c.in_ok-check_statements.ensures.begins

pub expr::check_target-returns-else-is_place-clause-exact : goal.expr::check_target-returns-else-is_place-clause-exact
expr::check_target-returns-else-is_place-clause-exact t c = tt

pub expr::check_target-returns-else-is_place-clause-refused : goal.expr::check_target-returns-else-is_place-clause-refused
expr::check_target-returns-else-is_place-clause-refused t c =
    target_refused (seen_expr c.args.lhs.now) (around c.args.declared.now c.args.place) c.seen_start.result
    (sym c.is_place.ensures.seen ∙ c.if-is_place.false) c.seen_start.ensures

pub expr::check_expr-returns-in-Or-clause-exact : goal.expr::check_expr-returns-in-Or-clause-exact
expr::check_expr-returns-in-Or-clause-exact t c =
    exact_expr_at _ c.args.expr.now (layer.Or c.in-Or.parts c.in-Or.field-1) _ (rw (c.in-Or.is, outs-Or) refl)
    (rw c.as_slice-in-Or.ensures at c.check_exprs-in-Or.ensures.exact)

pub expr::check_expr-returns-in-Or-clause-resolved : goal.expr::check_expr-returns-in-Or-clause-resolved
expr::check_expr-returns-in-Or-clause-resolved t c =
    resolved_expr_at _ c.args.expr.now (layer.Or c.in-Or.parts c.in-Or.field-1) c.args.declared.now (rw (c.in-Or.is, outs-Or) refl)
    (rw c.as_slice-in-Or.ensures at c.check_exprs-in-Or.ensures.resolved)

pub expr::check_expr-returns-in-Or-clause-refused : goal.expr::check_expr-returns-in-Or-clause-refused
expr::check_expr-returns-in-Or-clause-refused t c =
    refused_expr_at _ c.args.expr.now (layer.Or c.in-Or.parts c.in-Or.field-1) _ (rw (c.in-Or.is, outs-Or) refl)
    (rw c.as_slice-in-Or.ensures at c.check_exprs-in-Or.ensures.refused)

pub expr::check_map-returns-in-Ok-true-clause-exact : goal.expr::check_map-returns-in-Ok-true-clause-exact
expr::check_map-returns-in-Ok-true-clause-exact t c =
    map_passes c.check_entries.result c.args.entries.now c.args.template.now.0 c.args.pos
    (sym c.in-Ok-true.field-0-test ∙ c.in-Ok-true.ensures) (around c.args.declared.now c.args.place) c.check_entries.ensures.exact

pub expr::check_map-returns-in-Ok-true-clause-resolved : goal.expr::check_map-returns-in-Ok-true-clause-resolved
expr::check_map-returns-in-Ok-true-clause-resolved t c =
    map_runs c.check_entries.result c.args.entries.now c.args.template.now.0 c.args.pos
    (sym c.in-Ok-true.field-0-test ∙ c.in-Ok-true.ensures) c.args.declared.now
    c.check_entries.ensures.resolved

pub expr::check_map-returns-in-Ok-true-clause-refused : goal.expr::check_map-returns-in-Ok-true-clause-refused
expr::check_map-returns-in-Ok-true-clause-refused t c =
    map_refused c.check_entries.result c.args.entries.now c.args.template.now.0 c.args.pos
    (sym c.in-Ok-true.field-0-test ∙ c.in-Ok-true.ensures) (around c.args.declared.now c.args.place) c.check_entries.ensures.refused

pub expr::check_map-returns-in-Ok-false-clause-refused : goal.expr::check_map-returns-in-Ok-false-clause-refused
expr::check_map-returns-in-Ok-false-clause-refused t c =
    keys_refused c.args.entries.now c.args.template.now.0 c.args.pos (around c.args.declared.now c.args.place)
    (sym c.in-Ok-false.field-0-test ∙ c.in-Ok-false.ensures)

pub chain::check_behind_dot-returns-then-ends-clause-refused : goal.chain::check_behind_dot-returns-then-ends-clause-refused
chain::check_behind_dot-returns-then-ends-clause-refused t c =
    refused_as _ _ _ _ (named_alone faulty append-nil c.args.ends (seen_expr c.args.rhs.now).link c.args.pos
    (around c.args.declared.now c.args.place) c.if-ends.true) c.check_named.ensures.refused

pub chain::check_behind_dot-returns-in_err-check_named-in-Dot-clause-refused :
    goal.chain::check_behind_dot-returns-in_err-check_named-in-Dot-clause-refused
chain::check_behind_dot-returns-in_err-check_named-in-Dot-clause-refused t c =
    refused _ _ _ _ c.from_residual.ensures
    (chain_refused c.args.rhs.now c.in-Dot.first c.in-Dot.rest (layer.Dot c.in-Dot.first c.in-Dot.rest c.in-Dot.options c.in-Dot.dot)
    c.args.ends (dot_faults (ends_chain c.in-Dot.options) (seen_expr c.in-Dot.rest).link c.in-Dot.dot) _ c.args.pos
    (around c.args.declared.now c.args.place) c.if-ends.false (rw (c.in-Dot.is, outs-Dot) refl) refl refl _
    (rw c.get.ensures at c.in_err-check_named-in-Dot.ensures.refused))

pub chain::check_behind_dot-returns-in_err-check_named-in-Index-clause-refused :
    goal.chain::check_behind_dot-returns-in_err-check_named-in-Index-clause-refused
chain::check_behind_dot-returns-in_err-check_named-in-Index-clause-refused t c =
    refused _ _ _ _ c.from_residual-in_err-check_named-in-Index.ensures
    (chain_refused c.args.rhs.now c.in-Index.first c.in-Index.rest
    (layer.Index c.in-Index.first c.in-Index.rest c.in-Index.options c.in-Index.field-3)
    c.args.ends _ _ c.args.pos
    (around c.args.declared.now c.args.place) c.if-ends.false (rw (c.in-Index.is, outs-Index) refl) refl refl _
    (rw c.get-in-Index.ensures at c.in_err-check_named-in-Index.ensures.refused))

pub chain::check_behind_dot-returns-in_ok-check_named-in-Dot-clause-refused :
    goal.chain::check_behind_dot-returns-in_ok-check_named-in-Dot-clause-refused
chain::check_behind_dot-returns-in_ok-check_named-in-Dot-clause-refused t c =
    err_then _ (λ e h. rest_refused c.args.rhs.now c.in-Dot.first c.in-Dot.rest
    (layer.Dot c.in-Dot.first c.in-Dot.rest c.in-Dot.options c.in-Dot.dot)
    c.args.ends (dot_faults (ends_chain c.in-Dot.options) (seen_expr c.in-Dot.rest).link c.in-Dot.dot) _ c.args.pos
    (around c.args.declared.now c.args.place) c.if-ends.false (rw (c.in-Dot.is, outs-Dot) refl) refl refl e
    (rw c.get.ensures at c.in_ok-check_named-in-Dot.ensures.exact) h)
    (rw (c.in_ok-check_named-in-Dot.ensures.same, c.ends_chain.ensures, c.get-in-Dot.ensures) at c.check_behind_dot.ensures.refused)

pub chain::check_behind_dot-returns-in_ok-check_named-in-Index-clause-exact :
    goal.chain::check_behind_dot-returns-in_ok-check_named-in-Index-clause-exact
chain::check_behind_dot-returns-in_ok-check_named-in-Index-clause-exact t c =
    chain_passes c.args.rhs.now c.in-Index.first c.in-Index.rest
    (layer.Index c.in-Index.first c.in-Index.rest c.in-Index.options c.in-Index.field-3)
    c.args.ends _ _ c.args.pos
    (around c.args.declared.now c.args.place) c.if-ends.false (rw (c.in-Index.is, outs-Index) refl) refl _
    (rw c.get-in-Index.ensures at c.in_ok-check_named-in-Index.ensures.exact)
    (passes_as _ _ _ (bracket_same (ends_chain c.in-Index.options) c.in-Index.rest (around c.args.declared.now c.args.place))
    (rw (c.in_ok-check_named-in-Index.ensures.same, c.get-in-Index-2.ensures) at c.check_behind_bracket.ensures.exact))

pub chain::check_behind_dot-returns-in_ok-check_named-in-Index-clause-resolved :
    goal.chain::check_behind_dot-returns-in_ok-check_named-in-Index-clause-resolved
chain::check_behind_dot-returns-in_ok-check_named-in-Index-clause-resolved t c =
    chain_runs _ c.args.rhs.now c.in-Index.first
    (layer.Index c.in-Index.first c.in-Index.rest c.in-Index.options c.in-Index.field-3)
    c.args.ends _ _ c.args.pos c.args.declared.now c.if-ends.false (rw (c.in-Index.is, outs-Index) refl) refl
    (rw c.get-in-Index.ensures at c.in_ok-check_named-in-Index.ensures.resolved)
    (rw (c.in_ok-check_named-in-Index.ensures.same, c.ends_chain-in-Index.ensures, c.get-in-Index-2.ensures)
    at c.check_behind_bracket.ensures.resolved)

pub chain::check_behind_dot-returns-in_ok-check_named-in-Index-clause-refused :
    goal.chain::check_behind_dot-returns-in_ok-check_named-in-Index-clause-refused
chain::check_behind_dot-returns-in_ok-check_named-in-Index-clause-refused t c =
    err_then _ (λ e h. rest_refused c.args.rhs.now c.in-Index.first c.in-Index.rest
    (layer.Index c.in-Index.first c.in-Index.rest c.in-Index.options c.in-Index.field-3)
    c.args.ends _ _ c.args.pos
    (around c.args.declared.now c.args.place) c.if-ends.false (rw (c.in-Index.is, outs-Index) refl) refl refl e
    (rw c.get-in-Index.ensures at c.in_ok-check_named-in-Index.ensures.exact) h)
    (refused_as _ _ _ _ (bracket_same (ends_chain c.in-Index.options) c.in-Index.rest (around c.args.declared.now c.args.place))
    (rw (c.in_ok-check_named-in-Index.ensures.same, c.get-in-Index-2.ensures) at c.check_behind_bracket.ensures.refused))

pub chain::check_behind_dot-returns-in_default : goal.chain::check_behind_dot-returns-in_default
chain::check_behind_dot-returns-in_default t c = record {
  same = c.check_named-in_default.ensures.same;
  exact = passes_as _ _ _ (named_apart faulty append-nil c.args.rhs.now c.args.ends c.args.pos (around c.args.declared.now c.args.place)
      c.if-ends.false c.in_default.not-Dot c.in_default.not-Index) c.check_named-in_default.ensures.exact;
  resolved = runs_as _ (name_resolves (tests_of c.args.rhs.now).link c.args.pos)
      (dot_resolves c.args.ends (tests_of c.args.rhs.now).link c.args.pos) c.args.declared.now
      (λ ns. named_apart sound and_true c.args.rhs.now c.args.ends c.args.pos ns c.if-ends.false c.in_default.not-Dot
      c.in_default.not-Index) c.check_named-in_default.ensures.resolved;
  refused = refused_as _ _ _ _ (named_apart faulty append-nil c.args.rhs.now c.args.ends c.args.pos
      (around c.args.declared.now c.args.place) c.if-ends.false c.in_default.not-Dot c.in_default.not-Index)
      c.check_named-in_default.ensures.refused;
}

pub expr::check_expr-returns-in_err-count_links-in-Dot-clause-refused :
    goal.expr::check_expr-returns-in_err-count_links-in-Dot-clause-refused
expr::check_expr-returns-in_err-count_links-in-Dot-clause-refused t c =
    refused _ _ _ _ c.from_residual.ensures (refuses_memory _ _ _ c.in_err-count_links-in-Dot.ensures.memory
    (declares-expr c.args.expr.now (layer.Dot c.in-Dot.lhs c.in-Dot.rhs c.in-Dot.options c.in-Dot.pos) (rw (c.in-Dot.is, outs-Dot) refl)))

pub expr::check_expr-returns-in_err-check_expr-in-Dot-clause-refused :
    goal.expr::check_expr-returns-in_err-check_expr-in-Dot-clause-refused
expr::check_expr-returns-in_err-check_expr-in-Dot-clause-refused t c =
    refused _ _ _ _ c.from_residual-in_err-check_expr-in-Dot.ensures
    (refuses_expr_at c.args.expr.now (layer.Dot c.in-Dot.lhs c.in-Dot.rhs c.in-Dot.options c.in-Dot.pos)
    (around c.args.declared.now c.args.place) _ (rw (c.in-Dot.is, outs-Dot) refl)
    (refuses_front _ _ _ _ (rw c.get-in-Dot.ensures at c.in_err-check_expr-in-Dot.ensures.refused)))

pub expr::check_expr-returns-in_err-count_links-in-Index-clause-refused :
    goal.expr::check_expr-returns-in_err-count_links-in-Index-clause-refused
expr::check_expr-returns-in_err-count_links-in-Index-clause-refused t c =
    refused _ _ _ _ c.from_residual-in_err-count_links-in-Index.ensures (refuses_memory _ _ _ c.in_err-count_links-in-Index.ensures.memory
    (declares-expr c.args.expr.now (layer.Index c.in-Index.lhs c.in-Index.rhs c.in-Index.options c.in-Index.field-3)
    (rw (c.in-Index.is, outs-Index) refl)))

pub expr::check_expr-returns-in_err-check_expr-in-Index-clause-refused :
    goal.expr::check_expr-returns-in_err-check_expr-in-Index-clause-refused
expr::check_expr-returns-in_err-check_expr-in-Index-clause-refused t c =
    refused _ _ _ _ c.from_residual-in_err-check_expr-in-Index.ensures
    (refuses_expr_at c.args.expr.now (layer.Index c.in-Index.lhs c.in-Index.rhs c.in-Index.options c.in-Index.field-3)
    (around c.args.declared.now c.args.place) _ (rw (c.in-Index.is, outs-Index) refl)
    (refuses_front _ _ _ _ (rw c.get-in-Index.ensures at c.in_err-check_expr-in-Index.ensures.refused)))

pub expr::check_expr-returns-in-DynamicConstant-clause-resolved : goal.expr::check_expr-returns-in-DynamicConstant-clause-resolved
expr::check_expr-returns-in-DynamicConstant-clause-resolved t c base =
    runs_at c.args.expr.now (layer.DynamicConstant c.in-DynamicConstant.field-0 c.in-DynamicConstant.field-1) (above base
    c.args.declared.now)
    (rw (c.in-DynamicConstant.is, outs-DynamicConstant) refl) refl

pub expr::check_expr-returns-in-BoolConstant-clause-resolved : goal.expr::check_expr-returns-in-BoolConstant-clause-resolved
expr::check_expr-returns-in-BoolConstant-clause-resolved t c base =
    runs_at c.args.expr.now (layer.BoolConstant c.in-BoolConstant.field-0 c.in-BoolConstant.field-1) (above base c.args.declared.now)
    (rw (c.in-BoolConstant.is, outs-BoolConstant) refl) refl

pub expr::check_expr-returns-in-IntegerConstant-clause-resolved : goal.expr::check_expr-returns-in-IntegerConstant-clause-resolved
expr::check_expr-returns-in-IntegerConstant-clause-resolved t c base =
    runs_at c.args.expr.now (layer.IntegerConstant c.in-IntegerConstant.field-0 c.in-IntegerConstant.field-1) (above base
    c.args.declared.now)
    (rw (c.in-IntegerConstant.is, outs-IntegerConstant) refl) refl

pub expr::check_expr-returns-in-CharConstant-clause-resolved : goal.expr::check_expr-returns-in-CharConstant-clause-resolved
expr::check_expr-returns-in-CharConstant-clause-resolved t c base =
    runs_at c.args.expr.now (layer.CharConstant c.in-CharConstant.field-0 c.in-CharConstant.field-1) (above base c.args.declared.now)
    (rw (c.in-CharConstant.is, outs-CharConstant) refl) refl

pub expr::check_expr-returns-in-StringConstant-clause-resolved : goal.expr::check_expr-returns-in-StringConstant-clause-resolved
expr::check_expr-returns-in-StringConstant-clause-resolved t c base =
    runs_at c.args.expr.now (layer.StringConstant c.in-StringConstant.field-0 c.in-StringConstant.field-1) (above base c.args.declared.now)
    (rw (c.in-StringConstant.is, outs-StringConstant) refl) refl

pub expr::check_expr-returns-in-Unit-clause-resolved : goal.expr::check_expr-returns-in-Unit-clause-resolved
expr::check_expr-returns-in-Unit-clause-resolved t c base =
    runs_at c.args.expr.now (layer.Unit c.in-Unit.field-0) (above base c.args.declared.now) (rw (c.in-Unit.is, outs-Unit) refl) refl

pub expr::check_expr-returns-in_ok-check_expr-in-Dot-clause-resolved :
    goal.expr::check_expr-returns-in_ok-check_expr-in-Dot-clause-resolved
expr::check_expr-returns-in_ok-check_expr-in-Dot-clause-resolved t c =
    counted_runs _ c.args.expr.now (layer.Dot c.in-Dot.lhs c.in-Dot.rhs c.in-Dot.options c.in-Dot.pos)
    (resolves_expr c.in-Dot.lhs) (dot_resolves (ends_chain c.in-Dot.options) (tests_of c.in-Dot.rhs).link c.in-Dot.pos) c.args.declared.now
    (rw (c.in-Dot.is, outs-Dot) refl) (λ ns. refl) c.in_ok-count_links-in-Dot.ensures.counted
    (rw c.get-in-Dot.ensures at c.in_ok-check_expr-in-Dot.ensures.resolved)
    (rw (c.in_ok-check_expr-in-Dot.ensures.same, c.ends_chain.ensures, c.get-in-Dot-2.ensures)
    at c.check_behind_dot.ensures.resolved)

pub expr::check_expr-returns-in_ok-check_expr-in-Dot-clause-refused :
    goal.expr::check_expr-returns-in_ok-check_expr-in-Dot-clause-refused
expr::check_expr-returns-in_ok-check_expr-in-Dot-clause-refused t c =
    err_then _ (λ e h. refuses_expr_at c.args.expr.now
    (layer.Dot c.in-Dot.lhs c.in-Dot.rhs c.in-Dot.options c.in-Dot.pos)
    (around c.args.declared.now c.args.place) e (rw (c.in-Dot.is, outs-Dot) refl)
    (refuses_behind _ _ _ e (rw c.get-in-Dot.ensures at c.in_ok-check_expr-in-Dot.ensures.exact) h))
    (rw (c.in_ok-check_expr-in-Dot.ensures.same, c.ends_chain.ensures, c.get-in-Dot-2.ensures)
    at c.check_behind_dot.ensures.refused)

pub expr::check_expr-returns-in_ok-check_expr-in-Index-clause-resolved :
    goal.expr::check_expr-returns-in_ok-check_expr-in-Index-clause-resolved
expr::check_expr-returns-in_ok-check_expr-in-Index-clause-resolved t c =
    counted_runs _ c.args.expr.now (layer.Index c.in-Index.lhs c.in-Index.rhs c.in-Index.options c.in-Index.field-3)
    (resolves_expr c.in-Index.lhs) (bracket_resolves (ends_chain c.in-Index.options) (tests_of c.in-Index.rhs)) c.args.declared.now
    (rw (c.in-Index.is, outs-Index) refl) (λ ns. refl) c.in_ok-count_links-in-Index.ensures.counted
    (rw c.get-in-Index.ensures at c.in_ok-check_expr-in-Index.ensures.resolved)
    (rw (c.in_ok-check_expr-in-Index.ensures.same, c.ends_chain-in-Index.ensures, c.get-in-Index-2.ensures)
    at c.check_behind_bracket.ensures.resolved)

pub expr::check_expr-returns-in_ok-check_expr-in-Index-clause-refused :
    goal.expr::check_expr-returns-in_ok-check_expr-in-Index-clause-refused
expr::check_expr-returns-in_ok-check_expr-in-Index-clause-refused t c =
    err_then _ (λ e h. refuses_expr_at c.args.expr.now
    (layer.Index c.in-Index.lhs c.in-Index.rhs c.in-Index.options c.in-Index.field-3)
    (around c.args.declared.now c.args.place) e (rw (c.in-Index.is, outs-Index) refl)
    (refuses_behind _ _ _ e (rw c.get-in-Index.ensures at c.in_ok-check_expr-in-Index.ensures.exact) h))
    (refused_as _ _ _ _ (bracket_same (ends_chain c.in-Index.options) c.in-Index.rhs (around c.args.declared.now c.args.place))
    (rw (c.in_ok-check_expr-in-Index.ensures.same, c.get-in-Index-2.ensures) at c.check_behind_bracket.ensures.refused))

pub stmt::check_stmt-returns-in_err-check_target-in-Assignment-clause-refused :
    goal.stmt::check_stmt-returns-in_err-check_target-in-Assignment-clause-refused
stmt::check_stmt-returns-in_err-check_target-in-Assignment-clause-refused t c =
    refused _ _ _ _ c.from_residual-in_err-check_target-in-Assignment.ensures
    (refuses_stmt_at c.args.stmt.now (layer.Assignment c.in-Assignment.field-0 c.in-Assignment.lhs c.in-Assignment.rhs)
    (around c.args.declared.now c.args.place) _ (rw (c.in-Assignment.is, outs-Assignment) refl)
    (refuses_first _ _ _ _ _ c.in_err-check_target-in-Assignment.ensures.refused))

pub stmt::check_stmt-returns-in_ok-check_target-in-Assignment-clause-refused :
    goal.stmt::check_stmt-returns-in_ok-check_target-in-Assignment-clause-refused
stmt::check_stmt-returns-in_ok-check_target-in-Assignment-clause-refused t c =
    err_then _ (λ e h. refuses_stmt_at c.args.stmt.now
    (layer.Assignment c.in-Assignment.field-0 c.in-Assignment.lhs c.in-Assignment.rhs)
    (around c.args.declared.now c.args.place) e (rw (c.in-Assignment.is, outs-Assignment) refl)
    (refuses_later _ _ _ _ e c.in_ok-check_target-in-Assignment.ensures.exact h))
    (rw c.in_ok-check_target-in-Assignment.ensures.same at c.check_expr-in-Assignment.ensures.refused)

pub chain::check_behind_bracket-returns-then-ends-clause-resolved : goal.chain::check_behind_bracket-returns-then-ends-clause-resolved
chain::check_behind_bracket-returns-then-ends-clause-resolved t c =
    runs_as _ (resolves_expr c.args.rhs.now) (bracket_resolves c.args.ends (tests_of c.args.rhs.now)) c.args.declared.now
    (λ ns. bracket_last sound c.args.ends c.args.rhs.now ns c.if-ends.true) c.check_expr.ensures.resolved

pub chain::check_behind_bracket-returns-in_err-check_expr-in-Dot-clause-refused :
    goal.chain::check_behind_bracket-returns-in_err-check_expr-in-Dot-clause-refused
chain::check_behind_bracket-returns-in_err-check_expr-in-Dot-clause-refused t c =
    refused _ _ _ _ c.from_residual.ensures
    (refuses_expr_at c.args.rhs.now (layer.Dot c.in-Dot.first c.in-Dot.rest c.in-Dot.options c.in-Dot.dot)
    (around c.args.declared.now c.args.place) _ (rw (c.in-Dot.is, outs-Dot) refl)
    (refuses_front _ _ _ _ (rw c.get.ensures at c.in_err-check_expr-in-Dot.ensures.refused)))

pub chain::check_behind_bracket-returns-in_ok-check_expr-in-Dot-clause-resolved :
    goal.chain::check_behind_bracket-returns-in_ok-check_expr-in-Dot-clause-resolved
chain::check_behind_bracket-returns-in_ok-check_expr-in-Dot-clause-resolved t c =
    bracket_runs _ c.args.rhs.now c.in-Dot.first (layer.Dot c.in-Dot.first c.in-Dot.rest c.in-Dot.options c.in-Dot.dot) c.args.ends
    (dot_resolves (ends_chain c.in-Dot.options) (tests_of c.in-Dot.rest).link c.in-Dot.dot) _ c.args.declared.now c.if-ends.false
    (rw (c.in-Dot.is, outs-Dot) refl) refl
    (rw c.get.ensures at c.in_ok-check_expr-in-Dot.ensures.resolved)
    (rw (c.in_ok-check_expr-in-Dot.ensures.same, c.ends_chain.ensures, c.get-in-Dot.ensures) at c.check_behind_dot.ensures.resolved)

pub chain::check_behind_bracket-returns-in_ok-check_expr-in-Dot-clause-refused :
    goal.chain::check_behind_bracket-returns-in_ok-check_expr-in-Dot-clause-refused
chain::check_behind_bracket-returns-in_ok-check_expr-in-Dot-clause-refused t c =
    err_then _ (λ e h. refuses_expr_at c.args.rhs.now (layer.Dot c.in-Dot.first c.in-Dot.rest c.in-Dot.options c.in-Dot.dot)
    (around c.args.declared.now c.args.place) e (rw (c.in-Dot.is, outs-Dot) refl)
    (refuses_behind _ _ _ e (rw c.get.ensures at c.in_ok-check_expr-in-Dot.ensures.exact) h))
    (rw (c.in_ok-check_expr-in-Dot.ensures.same, c.ends_chain.ensures, c.get-in-Dot.ensures) at c.check_behind_dot.ensures.refused)

pub chain::check_behind_bracket-returns-in_err-check_expr-in-Index-clause-refused :
    goal.chain::check_behind_bracket-returns-in_err-check_expr-in-Index-clause-refused
chain::check_behind_bracket-returns-in_err-check_expr-in-Index-clause-refused t c =
    refused _ _ _ _ c.from_residual-in_err-check_expr-in-Index.ensures
    (refuses_expr_at c.args.rhs.now (layer.Index c.in-Index.first c.in-Index.rest c.in-Index.options c.in-Index.field-3)
    (around c.args.declared.now c.args.place) _ (rw (c.in-Index.is, outs-Index) refl)
    (refuses_front _ _ _ _ (rw c.get-in-Index.ensures at c.in_err-check_expr-in-Index.ensures.refused)))

pub chain::check_behind_bracket-returns-in_ok-check_expr-in-Index-clause-resolved :
    goal.chain::check_behind_bracket-returns-in_ok-check_expr-in-Index-clause-resolved
chain::check_behind_bracket-returns-in_ok-check_expr-in-Index-clause-resolved t c =
    bracket_runs _ c.args.rhs.now c.in-Index.first
    (layer.Index c.in-Index.first c.in-Index.rest c.in-Index.options c.in-Index.field-3) c.args.ends
    (bracket_resolves (ends_chain c.in-Index.options) (tests_of c.in-Index.rest)) _ c.args.declared.now c.if-ends.false
    (rw (c.in-Index.is, outs-Index) refl) refl
    (rw c.get-in-Index.ensures at c.in_ok-check_expr-in-Index.ensures.resolved)
    (rw (c.in_ok-check_expr-in-Index.ensures.same, c.ends_chain-in-Index.ensures, c.get-in-Index-2.ensures)
    at c.check_behind_bracket.ensures.resolved)

pub chain::check_behind_bracket-returns-in_ok-check_expr-in-Index-clause-refused :
    goal.chain::check_behind_bracket-returns-in_ok-check_expr-in-Index-clause-refused
chain::check_behind_bracket-returns-in_ok-check_expr-in-Index-clause-refused t c =
    err_then _ (λ e h. refuses_expr_at c.args.rhs.now
    (layer.Index c.in-Index.first c.in-Index.rest c.in-Index.options c.in-Index.field-3)
    (around c.args.declared.now c.args.place) e (rw (c.in-Index.is, outs-Index) refl)
    (refuses_behind _ _ _ e (rw c.get-in-Index.ensures at c.in_ok-check_expr-in-Index.ensures.exact) h))
    (refused_as _ _ _ _ (bracket_same (ends_chain c.in-Index.options) c.in-Index.rest (around c.args.declared.now c.args.place))
    (rw (c.in_ok-check_expr-in-Index.ensures.same, c.get-in-Index-2.ensures) at c.check_behind_bracket.ensures.refused))

pub chain::check_behind_bracket-returns-in_default-clause-resolved : goal.chain::check_behind_bracket-returns-in_default-clause-resolved
chain::check_behind_bracket-returns-in_default-clause-resolved t c =
    runs_as _ (resolves_expr c.args.rhs.now) (bracket_resolves c.args.ends (tests_of c.args.rhs.now)) c.args.declared.now
    (λ ns. bracket_apart sound c.args.rhs.now c.args.ends ns c.if-ends.false c.in_default.not-Dot c.in_default.not-Index)
    c.check_expr-in_default.ensures.resolved

pub expr::check_expr-returns-in-ThisPtr-clause-resolved : goal.expr::check_expr-returns-in-ThisPtr-clause-resolved
expr::check_expr-returns-in-ThisPtr-clause-resolved t c base =
    runs_at c.args.expr.now (layer.ThisPtr c.in-ThisPtr.field-0) (above base c.args.declared.now) (rw
    (c.in-ThisPtr.is, outs-ThisPtr) refl) refl

pub stmt::check_conditionals-returns-in_err-check_conditional-clause-refused :
    goal.stmt::check_conditionals-returns-in_err-check_conditional-clause-refused
stmt::check_conditionals-returns-in_err-check_conditional-clause-refused t c =
    refused _ _ _ _ c.from_residual.ensures
    (refuses_conditional c.args.conditionals.now c.each.conditional-index c.conditional-item.result
    (around c.args.declared.now c.args.place) _ c.each-test.true c.conditional-item.is c.each.invariant.faults c.each.invariant.declares
    (rw c.each.invariant.same at c.in_err-check_conditional.ensures.refused))

pub stmt::check_turns-returns-in_err-check_block-clause-refused : goal.stmt::check_turns-returns-in_err-check_block-clause-refused
stmt::check_turns-returns-in_err-check_block-clause-refused t c =
    refused _ _ _ _ c.from_residual-in_err-check_block.ensures
    (turn_refused c.args.variable.now c.args.counter.now c.args.declared.now c.args.body.now c.args.place _ _
    (rw (c.in_ok-declare_turn.ensures.added, c.looping.ensures) at c.in_err-check_block.ensures.refused))

pub stmt::check_turns-returns-clause-same : goal.stmt::check_turns-returns-clause-same
stmt::check_turns-returns-clause-same t c =
    c.truncate.ensures ∙ ap (cut c.mark-start.result) (c.in_ok-check_block.ensures.same ∙ c.in_ok-declare_turn.ensures.added)
    ∙ ap (λ m. cut m (turned c.args.variable.now c.args.counter.now c.args.declared.now)) c.mark-start.ensures
    ∙ turn_back c.args.variable.now c.args.counter.now c.args.declared.now

pub stmt::check_turns-returns-clause-exact : goal.stmt::check_turns-returns-clause-exact
stmt::check_turns-returns-clause-exact t c =
    turn_passes c.args.variable.now c.args.counter.now c.args.declared.now c.args.body.now c.args.place
    (rw (c.in_ok-declare_turn.ensures.added, c.looping.ensures) at c.in_ok-check_block.ensures.exact)

pub stmt::check_turns-returns-clause-resolved : goal.stmt::check_turns-returns-clause-resolved
stmt::check_turns-returns-clause-resolved t c =
    turn_runs c.args.variable.now c.args.counter.now c.args.declared.now c.args.body.now
    (rw c.in_ok-declare_turn.ensures.added at c.in_ok-check_block.ensures.resolved)

pub stmt::check_branch-returns-in_err-declare_catch-clause-refused : goal.stmt::check_branch-returns-in_err-declare_catch-clause-refused
stmt::check_branch-returns-in_err-declare_catch-clause-refused t c =
    refused _ _ _ _ c.from_residual.ensures
    (refuses_first (catch_variable_faults c.args.variable.now) _ (names_a_catch (catch_of c.args.variable.now)) _ _
    c.in_err-declare_catch.ensures.refused)

pub stmt::check_branch-returns-in_err-check_block-clause-refused : goal.stmt::check_branch-returns-in_err-check_block-clause-refused
stmt::check_branch-returns-in_err-check_block-clause-refused t c =
    refused _ _ _ _ c.from_residual-in_err-check_block.ensures
    (branch_refused c.args.variable.now c.args.branch.now c.args.declared.now c.declare_catch.new.self c.in_ok-declare_catch.ensures.added
    c.args.place _ c.in_err-check_block.ensures.refused)

pub stmt::check_branch-returns-clause-same : goal.stmt::check_branch-returns-clause-same
stmt::check_branch-returns-clause-same t c =
    c.truncate.ensures ∙ ap (cut c.mark-start.result) c.in_ok-check_block.ensures.same
    ∙ ap (λ m. cut m c.declare_catch.new.self) c.mark-start.ensures
    ∙ caught_back (catch_of c.args.variable.now) c.args.declared.now c.declare_catch.new.self c.in_ok-declare_catch.ensures.added

pub stmt::check_branch-returns-clause-exact : goal.stmt::check_branch-returns-clause-exact
stmt::check_branch-returns-clause-exact t c =
    branch_passes c.args.variable.now c.args.branch.now c.args.declared.now c.declare_catch.new.self c.in_ok-declare_catch.ensures.added
    c.args.place c.in_ok-check_block.ensures.exact

pub stmt::check_branch-returns-clause-resolved : goal.stmt::check_branch-returns-clause-resolved
stmt::check_branch-returns-clause-resolved t c =
    branch_runs c.args.variable.now c.args.branch.now c.args.declared.now c.declare_catch.new.self c.in_ok-declare_catch.ensures.added
    c.in_ok-check_block.ensures.resolved

pub stmt::check_stmt-returns-then-not-is_switch-clause-refused : goal.stmt::check_stmt-returns-then-not-is_switch-clause-refused
stmt::check_stmt-returns-then-not-is_switch-clause-refused t c =
    let bad : is_switch (length c.in-Switch.expressions) c.in-Switch.cases c.in-Switch.ranges c.in-Switch.def_case ≡ false =
    sym (rw (c.len-count.ensures, c.as_slice.ensures, c.as_slice-in-Switch.ensures) at c.if-not-is_switch.ensures) in
    switch_bad c.args.stmt.now c.in-Switch.expr c.in-Switch.expressions c.in-Switch.cases c.in-Switch.ranges c.in-Switch.def_case
    c.in-Switch.pos c.args.declared.now c.args.place (rw (c.in-Switch.is, outs-Switch) refl) bad

pub stmt::check_stmt-returns-in_err-check_expr-in-Switch-clause-refused :
    goal.stmt::check_stmt-returns-in_err-check_expr-in-Switch-clause-refused
stmt::check_stmt-returns-in_err-check_expr-in-Switch-clause-refused t c =
    let good : is_switch (length c.in-Switch.expressions) c.in-Switch.cases c.in-Switch.ranges c.in-Switch.def_case ≡ true =
    sym (rw (c.len-count.ensures, c.as_slice.ensures, c.as_slice-in-Switch.ensures) at c.if-not-is_switch.ensures) in
    refused _ _ _ _ c.from_residual-in_err-check_expr-in-Switch.ensures
    (value_refused c.args.stmt.now c.in-Switch.expr c.in-Switch.expressions c.in-Switch.cases c.in-Switch.ranges c.in-Switch.def_case
    c.in-Switch.pos c.args.declared.now c.args.place (rw (c.in-Switch.is, outs-Switch) refl) good _
    c.in_err-check_expr-in-Switch.ensures.refused)

pub stmt::check_stmt-returns-in_ok-check_expr-in-Switch-clause-exact :
    goal.stmt::check_stmt-returns-in_ok-check_expr-in-Switch-clause-exact
stmt::check_stmt-returns-in_ok-check_expr-in-Switch-clause-exact t c =
    let good : is_switch (length c.in-Switch.expressions) c.in-Switch.cases c.in-Switch.ranges c.in-Switch.def_case ≡ true =
    sym (rw (c.len-count.ensures, c.as_slice.ensures, c.as_slice-in-Switch.ensures) at c.if-not-is_switch.ensures) in
    switch_passes c.args.stmt.now c.in-Switch.expr c.in-Switch.expressions c.in-Switch.cases c.in-Switch.ranges c.in-Switch.def_case
    c.in-Switch.pos c.args.declared.now c.args.place (rw (c.in-Switch.is, outs-Switch) refl) good
    c.in_ok-check_expr-in-Switch.ensures.exact _ _
    (rw (c.in_ok-check_expr-in-Switch.ensures.same, c.as_slice-in-Switch-2.ensures) at c.check_conditionals.ensures.exact)
    (rw c.in_ok-check_expr-in-Switch.ensures.same at c.check_conditionals.ensures.same)

pub stmt::check_stmt-returns-in_ok-check_expr-in-Switch-clause-resolved :
    goal.stmt::check_stmt-returns-in_ok-check_expr-in-Switch-clause-resolved
stmt::check_stmt-returns-in_ok-check_expr-in-Switch-clause-resolved t c =
    let good : is_switch (length c.in-Switch.expressions) c.in-Switch.cases c.in-Switch.ranges c.in-Switch.def_case ≡ true =
    sym (rw (c.len-count.ensures, c.as_slice.ensures, c.as_slice-in-Switch.ensures) at c.if-not-is_switch.ensures) in
    switch_runs c.args.stmt.now c.in-Switch.expr c.in-Switch.expressions c.in-Switch.cases c.in-Switch.ranges c.in-Switch.def_case
    c.in-Switch.pos c.args.declared.now c.args.place (rw (c.in-Switch.is, outs-Switch) refl) good
    _ _ c.in_ok-check_expr-in-Switch.ensures.resolved
    (rw (c.in_ok-check_expr-in-Switch.ensures.same, c.as_slice-in-Switch-2.ensures) at c.check_conditionals.ensures.resolved)
    (rw c.in_ok-check_expr-in-Switch.ensures.same at c.check_conditionals.ensures.same)

pub stmt::check_stmt-returns-in_ok-check_expr-in-Switch-clause-refused :
    goal.stmt::check_stmt-returns-in_ok-check_expr-in-Switch-clause-refused
stmt::check_stmt-returns-in_ok-check_expr-in-Switch-clause-refused t c =
    let good : is_switch (length c.in-Switch.expressions) c.in-Switch.cases c.in-Switch.ranges c.in-Switch.def_case ≡ true =
    sym (rw (c.len-count.ensures, c.as_slice.ensures, c.as_slice-in-Switch.ensures) at c.if-not-is_switch.ensures) in
    err_then _ (λ e h. parts_refused c.args.stmt.now c.in-Switch.expr c.in-Switch.expressions c.in-Switch.cases c.in-Switch.ranges
    c.in-Switch.def_case
    c.in-Switch.pos c.args.declared.now c.args.place (rw (c.in-Switch.is, outs-Switch) refl) good
    c.in_ok-check_expr-in-Switch.ensures.exact e h)
    (rw (c.in_ok-check_expr-in-Switch.ensures.same, c.as_slice-in-Switch-2.ensures) at c.check_conditionals.ensures.refused)

pub stmt::check_stmt-returns-in_err-check_expr-in-For-clause-refused :
    goal.stmt::check_stmt-returns-in_err-check_expr-in-For-clause-refused
stmt::check_stmt-returns-in_err-check_expr-in-For-clause-refused t c =
    refused _ _ _ _ c.from_residual-in_err-check_expr-in-For.ensures
    (refuses_stmt_at c.args.stmt.now (layer.For c.in-For.name c.in-For.counter c.in-For.expr c.in-For.body c.in-For.pos)
    (around c.args.declared.now c.args.place) _ (rw (c.in-For.is, outs-For) refl)
    (refuses_front _ _ _ _ c.in_err-check_expr-in-For.ensures.refused))

pub stmt::check_stmt-returns-in_ok-check_expr-in-For-clause-exact : goal.stmt::check_stmt-returns-in_ok-check_expr-in-For-clause-exact
stmt::check_stmt-returns-in_ok-check_expr-in-For-clause-exact t c =
    exact_stmt_at _ c.args.stmt.now (layer.For c.in-For.name c.in-For.counter c.in-For.expr c.in-For.body c.in-For.pos)
    (around c.args.declared.now c.args.place) _ (rw (c.in-For.is, outs-For) refl)
    (loop_passes _ _ _ c.args.place c.args.declared.now _ c.in_ok-check_expr-in-For.ensures.exact
    (rw c.in_ok-check_expr-in-For.ensures.same at c.check_turns.ensures.exact) (rw c.in_ok-check_expr-in-For.ensures.same at
    c.check_turns.ensures.same))

pub stmt::check_stmt-returns-in_ok-check_expr-in-For-clause-resolved :
    goal.stmt::check_stmt-returns-in_ok-check_expr-in-For-clause-resolved
stmt::check_stmt-returns-in_ok-check_expr-in-For-clause-resolved t c =
    let turns = turns_resolve c.in-For.name c.in-For.counter c.in-For.body in
    runs_stmt_at _ c.args.stmt.now (layer.For c.in-For.name c.in-For.counter c.in-For.expr c.in-For.body c.in-For.pos)
    (λ ns. resolves_expr c.in-For.expr ns && turns ns) c.args.declared.now _ (rw (c.in-For.is, outs-For) refl) (λ ns. refl)
    (both_run _ (resolves_expr c.in-For.expr) turns c.args.declared.now c.in_ok-check_expr-in-For.ensures.resolved
    (rw c.in_ok-check_expr-in-For.ensures.same at c.check_turns.ensures.resolved))
    (rw c.in_ok-check_expr-in-For.ensures.same at c.check_turns.ensures.same)

pub stmt::check_stmt-returns-in_ok-check_expr-in-For-clause-refused :
    goal.stmt::check_stmt-returns-in_ok-check_expr-in-For-clause-refused
stmt::check_stmt-returns-in_ok-check_expr-in-For-clause-refused t c =
    err_then _ (λ e h. refuses_stmt_at c.args.stmt.now (layer.For c.in-For.name c.in-For.counter c.in-For.expr c.in-For.body c.in-For.pos)
    (around c.args.declared.now c.args.place) e (rw (c.in-For.is, outs-For) refl)
    (refuses_behind _ _ _ e c.in_ok-check_expr-in-For.ensures.exact h))
    (rw c.in_ok-check_expr-in-For.ensures.same at c.check_turns.ensures.refused)

pub stmt::check_stmt-returns-in_err-check_block-in-TryCatch-clause-refused :
    goal.stmt::check_stmt-returns-in_err-check_block-in-TryCatch-clause-refused
stmt::check_stmt-returns-in_err-check_block-in-TryCatch-clause-refused t c =
    refused _ _ _ _ c.from_residual-in_err-check_block-in-TryCatch.ensures
    (refuses_stmt_at c.args.stmt.now (layer.TryCatch c.in-TryCatch.body c.in-TryCatch.variable c.in-TryCatch.branch c.in-TryCatch.field-3)
    (around c.args.declared.now c.args.place) _ (rw (c.in-TryCatch.is, outs-TryCatch) refl)
    (refuses_first _ _ _ _ _ c.in_err-check_block-in-TryCatch.ensures.refused))

pub stmt::check_stmt-returns-in_ok-check_block-in-TryCatch-clause-exact :
    goal.stmt::check_stmt-returns-in_ok-check_block-in-TryCatch-clause-exact
stmt::check_stmt-returns-in_ok-check_block-in-TryCatch-clause-exact t c =
    exact_stmt_at _ c.args.stmt.now (layer.TryCatch c.in-TryCatch.body c.in-TryCatch.variable c.in-TryCatch.branch c.in-TryCatch.field-3)
    (around c.args.declared.now c.args.place) _ (rw (c.in-TryCatch.is, outs-TryCatch) refl)
    (loop_passes _ _ _ c.args.place c.args.declared.now _ c.in_ok-check_block-in-TryCatch.ensures.exact
    (passes_as _ _ _ (catch_same faulty c.in-TryCatch.variable (seen_block c.in-TryCatch.branch).value (around
    c.args.declared.now c.args.place))
    (rw c.in_ok-check_block-in-TryCatch.ensures.same at c.check_branch.ensures.exact))
    (rw c.in_ok-check_block-in-TryCatch.ensures.same at c.check_branch.ensures.same))

pub stmt::check_stmt-returns-in_ok-check_block-in-TryCatch-clause-resolved :
    goal.stmt::check_stmt-returns-in_ok-check_block-in-TryCatch-clause-resolved
stmt::check_stmt-returns-in_ok-check_block-in-TryCatch-clause-resolved t c =
    let branch = catch_resolves c.in-TryCatch.variable c.in-TryCatch.branch in
    runs_stmt_at _ c.args.stmt.now (layer.TryCatch c.in-TryCatch.body c.in-TryCatch.variable c.in-TryCatch.branch c.in-TryCatch.field-3)
    (λ ns. resolves_block c.in-TryCatch.body ns && branch ns) c.args.declared.now _ (rw (c.in-TryCatch.is, outs-TryCatch) refl)
    (λ ns i. (
      resolves_block c.in-TryCatch.body ns
          && catch_same sound c.in-TryCatch.variable (resolves_block c.in-TryCatch.branch) ns i,
      ns,
    ))
    (both_run _ (resolves_block c.in-TryCatch.body) branch c.args.declared.now c.in_ok-check_block-in-TryCatch.ensures.resolved
    (rw c.in_ok-check_block-in-TryCatch.ensures.same at c.check_branch.ensures.resolved))
    (rw c.in_ok-check_block-in-TryCatch.ensures.same at c.check_branch.ensures.same)

pub stmt::check_stmt-returns-in_ok-check_block-in-TryCatch-clause-refused :
    goal.stmt::check_stmt-returns-in_ok-check_block-in-TryCatch-clause-refused
stmt::check_stmt-returns-in_ok-check_block-in-TryCatch-clause-refused t c =
    err_then _ (λ e h. refuses_stmt_at c.args.stmt.now (layer.TryCatch c.in-TryCatch.body c.in-TryCatch.variable c.in-TryCatch.branch
    c.in-TryCatch.field-3)
    (around c.args.declared.now c.args.place) e (rw (c.in-TryCatch.is, outs-TryCatch) refl)
    (refuses_later _ _ _ _ e c.in_ok-check_block-in-TryCatch.ensures.exact
    (catch_refused c.in-TryCatch.variable c.in-TryCatch.branch (around c.args.declared.now c.args.place) e h)))
    (rw c.in_ok-check_block-in-TryCatch.ensures.same at c.check_branch.ensures.refused)

pub expr::check_expr-returns-in-Variable-clause-exact : goal.expr::check_expr-returns-in-Variable-clause-exact
expr::check_expr-returns-in-Variable-clause-exact t c =
    exact_expr_at _ c.args.expr.now
    (layer.Variable c.in-Variable.offset c.in-Variable.name c.in-Variable.namespace c.in-Variable.pos)
    (around c.args.declared.now c.args.place) (rw (c.in-Variable.is, outs-Variable) refl)
    (ok_then {P = (place : Place) → variable_faults c.in-Variable.offset c.in-Variable.name c.in-Variable.namespace c.in-Variable.pos
    (around c.args.declared.now place) ≡ []} _ (λ h. h c.args.place) (rw c.get.ensures at c.check_variable.ensures.exact))

pub expr::check_expr-returns-in-Variable-clause-resolved : goal.expr::check_expr-returns-in-Variable-clause-resolved
expr::check_expr-returns-in-Variable-clause-resolved t c =
    resolved_expr_at _ c.args.expr.now
    (layer.Variable c.in-Variable.offset c.in-Variable.name c.in-Variable.namespace c.in-Variable.pos)
    c.args.declared.now (rw (c.in-Variable.is, outs-Variable) refl)
    (rw c.get.ensures at c.check_variable.ensures.resolved)

pub expr::check_expr-returns-in-Variable-clause-refused : goal.expr::check_expr-returns-in-Variable-clause-refused
expr::check_expr-returns-in-Variable-clause-refused t c =
    refused_expr_at _ c.args.expr.now
    (layer.Variable c.in-Variable.offset c.in-Variable.name c.in-Variable.namespace c.in-Variable.pos)
    (around c.args.declared.now c.args.place) (rw (c.in-Variable.is, outs-Variable) refl)
    (err_then {P = λ fault. (place : Place) → Refuses (variable_faults c.in-Variable.offset c.in-Variable.name c.in-Variable.namespace
    c.in-Variable.pos (around c.args.declared.now place)) false fault} _ (λ e h. h c.args.place)
    (rw c.get.ensures at c.check_variable.ensures.refused))

pub stmt::check_stmt-returns-in_err-check_expr-in-Import-clause-refused :
    goal.stmt::check_stmt-returns-in_err-check_expr-in-Import-clause-refused
stmt::check_stmt-returns-in_err-check_expr-in-Import-clause-refused t c =
    refused _ _ _ _ c.from_residual-in_err-check_expr-in-Import.ensures
    (refuses_stmt_at c.args.stmt.now (layer.Import c.in-Import.path c.in-Import.alias c.in-Import.field-2)
    (around c.args.declared.now c.args.place) _ (rw (c.in-Import.is, outs-Import) refl)
    (refuses_more _ _ _ true _ (λ k. k) (λ k. refl) c.in_err-check_expr-in-Import.ensures.refused))

pub stmt::check_stmt-returns-in_ok-check_expr-in-Import-clause-begins :
    goal.stmt::check_stmt-returns-in_ok-check_expr-in-Import-clause-begins
stmt::check_stmt-returns-in_ok-check_expr-in-Import-clause-begins t c =
    ok_then _ (continues_import c.args.declared.now c.import.new.self (name_asked c.in-Import.alias))
    (rw c.in_ok-check_expr-in-Import.ensures.same at c.import.ensures.added)

pub stmt::check_stmt-returns-in_ok-check_expr-in-Import-clause-exact :
    goal.stmt::check_stmt-returns-in_ok-check_expr-in-Import-clause-exact
stmt::check_stmt-returns-in_ok-check_expr-in-Import-clause-exact t c =
    exact_stmt_at _ c.args.stmt.now (layer.Import c.in-Import.path c.in-Import.alias c.in-Import.field-2)
    (around c.args.declared.now c.args.place) _ (rw (c.in-Import.is, outs-Import) refl)
    (import_passes _ _ (name_asked c.in-Import.alias) c.args.place c.args.declared.now c.import.new.self
    c.in_ok-check_expr-in-Import.ensures.exact
    (rw c.in_ok-check_expr-in-Import.ensures.same at c.import.ensures.added))

pub stmt::check_stmt-returns-in_ok-check_expr-in-Import-clause-resolved :
    goal.stmt::check_stmt-returns-in_ok-check_expr-in-Import-clause-resolved
stmt::check_stmt-returns-in_ok-check_expr-in-Import-clause-resolved t c =
    resolved_stmt_at _ c.args.stmt.now (layer.Import c.in-Import.path c.in-Import.alias c.in-Import.field-2)
    c.args.declared.now _ (rw (c.in-Import.is, outs-Import) refl)
    (import_runs _ (resolves_expr c.in-Import.path) (name_asked c.in-Import.alias) c.args.declared.now c.import.new.self
    c.in_ok-check_expr-in-Import.ensures.resolved (rw c.in_ok-check_expr-in-Import.ensures.same at c.import.ensures.added))

pub stmt::check_stmt-returns-in_ok-check_expr-in-Import-clause-refused :
    goal.stmt::check_stmt-returns-in_ok-check_expr-in-Import-clause-refused
stmt::check_stmt-returns-in_ok-check_expr-in-Import-clause-refused t c =
    err_then _ (λ e h. refuses_stmt_at c.args.stmt.now
    (layer.Import c.in-Import.path c.in-Import.alias c.in-Import.field-2)
    (around c.args.declared.now c.args.place) e (rw (c.in-Import.is, outs-Import) refl) (refuses_memory _ _ e h refl))
    c.import.ensures.memory

pub stmt::check_stmt-returns-in-Noop-clause-begins : goal.stmt::check_stmt-returns-in-Noop-clause-begins
stmt::check_stmt-returns-in-Noop-clause-begins t c =
    continues_same c.args.declared.now c.args.declared.now refl

pub stmt::check_stmt-returns-in-Export-clause-begins : goal.stmt::check_stmt-returns-in-Export-clause-begins
stmt::check_stmt-returns-in-Export-clause-begins t c =
    continues_same c.args.declared.now c.args.declared.now refl

pub stmt::check_stmt-returns-in-Share-clause-begins : goal.stmt::check_stmt-returns-in-Share-clause-begins
stmt::check_stmt-returns-in-Share-clause-begins t c =
    given_ok _ (continues_same c.args.declared.now c.args.declared.now refl)

pub stmt::check_stmt-returns-in-Expr-clause-begins : goal.stmt::check_stmt-returns-in-Expr-clause-begins
stmt::check_stmt-returns-in-Expr-clause-begins t c =
    ok_then _ (continues_same c.args.declared.now _) c.check_expr.ensures.same

pub stmt::check_stmt-returns-in-FnCall-clause-begins : goal.stmt::check_stmt-returns-in-FnCall-clause-begins
stmt::check_stmt-returns-in-FnCall-clause-begins t c =
    ok_then _ (continues_same c.args.declared.now _) c.check_call.ensures.same

pub stmt::check_stmt-returns-in-Block-clause-begins : goal.stmt::check_stmt-returns-in-Block-clause-begins
stmt::check_stmt-returns-in-Block-clause-begins t c =
    ok_then _ (continues_same c.args.declared.now _) c.check_block.ensures.same

pub stmt::check_stmt-returns-in-BreakLoop-clause-begins : goal.stmt::check_stmt-returns-in-BreakLoop-clause-begins
stmt::check_stmt-returns-in-BreakLoop-clause-begins t c =
    ok_then _ (continues_same c.args.declared.now _) c.check_control.ensures.same

pub stmt::check_stmt-returns-in-Return-clause-begins : goal.stmt::check_stmt-returns-in-Return-clause-begins
stmt::check_stmt-returns-in-Return-clause-begins t c =
    ok_then _ (continues_same c.args.declared.now _) c.check_option.ensures.same

pub stmt::check_stmt-returns-in_ok-check_target-in-Assignment-clause-begins :
    goal.stmt::check_stmt-returns-in_ok-check_target-in-Assignment-clause-begins
stmt::check_stmt-returns-in_ok-check_target-in-Assignment-clause-begins t c =
    ok_then _ (continues_same c.args.declared.now _) (rw c.in_ok-check_target-in-Assignment.ensures.same at
    c.check_expr-in-Assignment.ensures.same)

pub stmt::check_stmt-returns-in_ok-check_expr-in-While-clause-begins : goal.stmt::check_stmt-returns-in_ok-check_expr-in-While-clause-begins
stmt::check_stmt-returns-in_ok-check_expr-in-While-clause-begins t c =
    ok_then _ (continues_same c.args.declared.now _) (rw c.in_ok-check_expr-in-While.ensures.same at c.check_block-in-While.ensures.same)

pub stmt::check_stmt-returns-in_ok-check_expr-in-Do-clause-begins : goal.stmt::check_stmt-returns-in_ok-check_expr-in-Do-clause-begins
stmt::check_stmt-returns-in_ok-check_expr-in-Do-clause-begins t c =
    ok_then _ (continues_same c.args.declared.now _) (rw c.in_ok-check_expr-in-Do.ensures.same at c.check_block-in-Do.ensures.same)

pub stmt::check_stmt-returns-in_ok-check_expr-in-Switch-clause-begins :
    goal.stmt::check_stmt-returns-in_ok-check_expr-in-Switch-clause-begins
stmt::check_stmt-returns-in_ok-check_expr-in-Switch-clause-begins t c =
    ok_then _ (continues_same c.args.declared.now _) (rw c.in_ok-check_expr-in-Switch.ensures.same at c.check_conditionals.ensures.same)

pub stmt::check_stmt-returns-in_ok-check_expr-in-For-clause-begins : goal.stmt::check_stmt-returns-in_ok-check_expr-in-For-clause-begins
stmt::check_stmt-returns-in_ok-check_expr-in-For-clause-begins t c =
    ok_then _ (continues_same c.args.declared.now _) (rw c.in_ok-check_expr-in-For.ensures.same at c.check_turns.ensures.same)

pub stmt::check_stmt-returns-in_ok-check_block-in-TryCatch-clause-begins :
    goal.stmt::check_stmt-returns-in_ok-check_block-in-TryCatch-clause-begins
stmt::check_stmt-returns-in_ok-check_block-in-TryCatch-clause-begins t c =
    ok_then _ (continues_same c.args.declared.now _) (rw c.in_ok-check_block-in-TryCatch.ensures.same at c.check_branch.ensures.same)

pub expr::check_call-returns-then-has_good_index-clause-resolved : goal.expr::check_call-returns-then-has_good_index-clause-resolved
expr::check_call-returns-then-has_good_index-clause-resolved t c =
    call_runs _ c.args.call.now c.args.pos c.args.declared.now (sym c.is_eval_call.ensures ∙ c.if-is_eval_call.false)
    (rw c.as_slice.ensures at (sym c.has_good_index.ensures ∙ c.if-has_good_index.true))
    (rw c.as_slice-then-has_good_index.ensures at c.check_exprs.ensures.resolved)

pub expr::check_call-returns-then-has_good_index-clause-refused : goal.expr::check_call-returns-then-has_good_index-clause-refused
expr::check_call-returns-then-has_good_index-clause-refused t c =
    call_refused _ c.args.call.now c.args.pos c.args.declared.now c.args.place (sym c.is_eval_call.ensures ∙ c.if-is_eval_call.false)
    (rw c.as_slice.ensures at (sym c.has_good_index.ensures ∙ c.if-has_good_index.true))
    (rw c.as_slice-then-has_good_index.ensures at c.check_exprs.ensures.refused)
