use Rattle.std.proofs.Common.{◌≡◌, ◌≤◌, ◌+◌, ◌∷◌, ℕ, zero, suc, add-one, drop, not, Err, refl, sym, true, ap, ◌∙◌, arith}
use Rattle.rhai_values.specs.declared.base.value.Dynamic.{Dynamic}
use Rattle.rhai_steps.specs.States.{holding}
use Rattle.rhai_tree.specs.Forms.{catch_of, name_asked}
use Rattle.rhai_tree.specs.declared.expr.Stmt.{out-Stmt}
use Rattle.rhai_tree.specs.declared.expr.Expr.TheOpen as layer
use Rattle.rhai_tree.specs.declared.expr.Expr.TheVariants as exprs
use Rattle.rhai_tree.specs.declared.expr.Stmt.TheVariants as stmts
use Rattle.rhai_tree.specs.Frame.{var_names}
use Rattle.rhai_tree.proofs.Statements.{for_resolves, share_resolves, switch_resolves, try_resolves}
use Rattle.rhai_lookups.specs.declared.run.RunState.{RunState}
use Rattle.rhai_machine.specs.machine.Point.{after}
use Rattle.rhai_machine.specs.machine.Memory.{here, next, ◌⨾◌}
use Rattle.rhai_machine.specs.language.Frames.{StatementValue, DefineValue, IfCondition, ImportPath, RestOfList, RestoreList, AssignValue}
use Rattle.rhai_machine.specs.language.Frames.{AssignThisValue, Eval, ended}
use Rattle.rhai_machine.specs.language.Runs.{Goes}
use Rattle.rhai_laws.proofs.KeptLaws.{names_begin, names_stay}
use Rattle.rhai_steps.proofs.Pieces.{told}
use Rattle.rhai_context.specs.Ends.{came, error_in}
use Rattle.rhai_eval_steps.specs.Agreement.{ChangesNames, KeepsNames, RestoresNames, SuitsNames}
use Rattle.rhai_eval_steps.specs.Memory.{asks_stmt}
use Rattle.rhai_eval_steps.specs.States.{names, state_in}
use Rattle.rhai_eval_core.specs.States.{under}
use Rattle.rhai_operands.specs.Tests.{Tests}
use Rattle.rhai_operands.proofs.Names.{both, good_target}
use Rattle.rhai_fast_assign.proofs.Alone.{sides_resolve}
use Rattle.rhai_fast_assign.proofs.Prepared.{begins_assignment}
use Rattle.rhai_tree.proofs.Links.{few_in_target}
use Rattle.rhai_eval_steps.proofs.Conditions.{chooses}
use Rattle.rhai_eval_steps.proofs.ImportSteps.{begins_path, imports, not_imported}
use Rattle.rhai_eval_steps.proofs.NameLemmas.{any_item, at_known, broken_suits, declared_resolves, first_suits, names_restored, rest_suits}
use Rattle.rhai_eval_steps.proofs.NameLemmas.{returned_suits, stmt_declares}
use Rattle.rhai_eval_steps.proofs.NameLemmas.{stmt_keeps, stmt_suits, var_good, var_value, stmt_imports}
use Rattle.rhai_eval_steps.proofs.FormNames.{block_suits, catches, chosen_suits}
use Rattle.rhai_steps.proofs.Agreeing.{brings, leads_by, leads_then, put_back, same, stays, still, changed, imported}
use Rattle.rhai_eval_steps.proofs.Chain.{flat_fails, drop_item, drop_all, begins_stmt, opens_stmt, refuses_stmt, restores, enters_empty}
use Rattle.rhai_eval_steps.proofs.Chain.{enters_plain, enters_restoring, has_some, is_empty_list, is_not_empty, left_state, not_declared}
use Rattle.rhai_eval_steps.proofs.Chain.{begins_value}
use Rattle.rhai_eval_steps.proofs.ThisSteps.{this_begins, this_unbound}
use Rattle.rhai_eval_steps.proofs.VariableSteps.{declared}
use Rattle.rhai_eval_core.proofs.evaluator.Evaluator.+eval.Invariants.{last_of}
use Rattle.rhai_eval_core.proofs.evaluator.Evaluator.+eval.Goals as goal
use Rattle.rhai_tree.specs.Names.{naming, with_import}
use Rattle.rhai_eval_steps.proofs.SightLemmas.{imports_begin, sight_left}

pub run_stmt-returns-then-not-charge_stmt-clause-runs : goal.run_stmt-returns-then-not-charge_stmt-clause-runs
run_stmt-returns-then-not-charge_stmt-clause-runs g t c =
    let rules = under g.H.Host.name_of c.args.self.now g.T.NativeTable.natives in
    refuses_stmt rules _ c.args.run.now.global c.charge_stmt.new.global _ _ _ _ _ refl (c.if-not-charge_stmt.ensures.full refl)
    (c.if-not-charge_stmt.ensures.refused refl) (c.if-not-charge_stmt.ensures.same refl) _ _ refl

pub run_stmt-returns-then-not-charge_stmt-clause-memory : goal.run_stmt-returns-then-not-charge_stmt-clause-memory
run_stmt-returns-then-not-charge_stmt-clause-memory g t c = rw (c.if-not-charge_stmt.ensures.refused refl) (λ never. cc)

pub run_stmt-returns-in-Noop-clause-runs : goal.run_stmt-returns-in-Noop-clause-runs
unfolding after Goes
run_stmt-returns-in-Noop-clause-runs g t c k =
    let rules = under g.H.Host.name_of c.args.self.now g.T.NativeTable.natives in
    begins_stmt rules _ c.args.run.now.global c.charge_stmt.new.global _ _ (c.if-not-charge_stmt.ensures.room refl)
    (c.if-not-charge_stmt.ensures.charged refl) _ _ (layer.Noop c.in-Noop.field-0) (rw (c.in-Noop.is, stmts.outs-Noop) refl) k
    ⨾ next (rw (c.leave_unit.ensures.done, c.leave_unit.ensures.value) here)

pub run_stmt-returns-then-not-run_expr-clause-runs : goal.run_stmt-returns-then-not-run_expr-clause-runs
unfolding after Goes
run_stmt-returns-then-not-run_expr-clause-runs g t c =
    let rules = under g.H.Host.name_of c.args.self.now g.T.NativeTable.natives in
    opens_stmt rules _ c.args.run.now.global c.charge_stmt.new.global _ _ (c.if-not-charge_stmt.ensures.room refl)
    (c.if-not-charge_stmt.ensures.charged refl) _ (Err (error_in c.run_expr.new.run.error)) _ _ (layer.Expr c.in-Expr.expr)
    (λ k. next (c.if-not-run_expr.ensures.runs (StatementValue _ ∷ k) ⨾ next here))
    (rw (c.in-Expr.is, stmts.outs-Expr) refl)

pub run_stmt-returns-else-not-run_expr-clause-runs : goal.run_stmt-returns-else-not-run_expr-clause-runs
unfolding after Goes
run_stmt-returns-else-not-run_expr-clause-runs g t c =
    let rules = under g.H.Host.name_of c.args.self.now g.T.NativeTable.natives in
    opens_stmt rules _ c.args.run.now.global c.charge_stmt.new.global _ _ (c.if-not-charge_stmt.ensures.room refl)
    (c.if-not-charge_stmt.ensures.charged refl) _ _ _ _ (layer.Expr c.in-Expr.expr)
    (λ k. next (c.if-not-run_expr.ensures.runs (StatementValue _ ∷ k)
    ⨾ next (told rules _ _ c.flatten_at.ensures.exact k _))) (rw (c.in-Expr.is, stmts.outs-Expr) refl)

pub run_stmt-returns-in-FnCall-clause-runs : goal.run_stmt-returns-in-FnCall-clause-runs
unfolding after Goes
run_stmt-returns-in-FnCall-clause-runs g t c k =
    let rules = under g.H.Host.name_of c.args.self.now g.T.NativeTable.natives in
    begins_stmt rules _ c.args.run.now.global c.charge_stmt.new.global _ _ (c.if-not-charge_stmt.ensures.room refl)
    (c.if-not-charge_stmt.ensures.charged refl) _ _ (layer.Stmt::FnCall c.in-FnCall.call c.in-FnCall.pos)
    (rw (c.in-FnCall.is, stmts.outs-FnCall) refl) k
    ⨾ next (c.run_fn_call_expr.ensures.runs k)

pub run_stmt-returns-in-Block-clause-runs : goal.run_stmt-returns-in-Block-clause-runs
unfolding after Goes
run_stmt-returns-in-Block-clause-runs g t c k =
    let rules = under g.H.Host.name_of c.args.self.now g.T.NativeTable.natives in
    begins_stmt rules _ c.args.run.now.global c.charge_stmt.new.global _ _ (c.if-not-charge_stmt.ensures.room refl)
    (c.if-not-charge_stmt.ensures.charged refl) _ _ (layer.Block c.in-Block.block) (rw (c.in-Block.is, stmts.outs-Block) refl) k
    ⨾ next ((rw c.as_slice.ensures at c.run_stmt_block.ensures.runs) k)

pub run_stmt-returns-in-If-clause-runs : goal.run_stmt-returns-in-If-clause-runs
run_stmt-returns-in-If-clause-runs g t c =
    let rules = under g.H.Host.name_of c.args.self.now g.T.NativeTable.natives in
    opens_stmt rules _ c.args.run.now.global c.charge_stmt.new.global _ _ (c.if-not-charge_stmt.ensures.room refl)
    (c.if-not-charge_stmt.ensures.charged refl) _ _ _ _ (layer.If c.in-If.test c.in-If.body c.in-If.branch c.in-If.field-3)
    (c.run_if.ensures.runs c.in-If.field-3 c.args.restoring) (rw (c.in-If.is, stmts.outs-If) refl)

pub run_stmt-run_assignment-requires : goal.run_stmt-run_assignment-requires
unfolding ChangesNames KeepsNames RestoresNames SuitsNames
run_stmt-run_assignment-requires g t c =
    let form : out-Stmt c.args.stmt.now ≡ layer.Assignment c.in-Assignment.op c.in-Assignment.lhs c.in-Assignment.rhs =
    rw (c.in-Assignment.is, stmts.outs-Assignment) refl in
    let suits = same c.charge_stmt.ensures.sight refl c.requires.resolves in
    let few = few_in_target c.in-Assignment.lhs suits.known (sides_resolve c.args.stmt.now c.in-Assignment.op c.in-Assignment.lhs
    c.in-Assignment.rhs suits.known form suits.holds).0 in
    λ κs lives. (
      omega (
        arith,
        few,
        (c.if-not-charge_stmt.ensures.room refl),
        ap (λ (global : RunState _). global.num_operations) (c.if-not-charge_stmt.ensures.charged refl),
      ),
      (
        lives.0,
        (
          lives.1,
          (
            brings (λ frame h. (sides_resolve c.args.stmt.now c.in-Assignment.op c.in-Assignment.lhs c.in-Assignment.rhs frame form h).0)
                suits,
            brings (λ frame h. (sides_resolve c.args.stmt.now c.in-Assignment.op c.in-Assignment.lhs c.in-Assignment.rhs frame form h).1)
                suits,
          ),
        ),
      ),
    )

pub run_stmt-returns-in-Assignment-clause-runs : goal.run_stmt-returns-in-Assignment-clause-runs
run_stmt-returns-in-Assignment-clause-runs g t c =
    let rules = under g.H.Host.name_of c.args.self.now g.T.NativeTable.natives in
    opens_stmt rules _ c.args.run.now.global c.charge_stmt.new.global _ _ (c.if-not-charge_stmt.ensures.room refl)
    (c.if-not-charge_stmt.ensures.charged refl) _ _ _ _ _ (c.run_assignment.ensures.runs c.args.restoring)
    (rw (c.in-Assignment.is, stmts.outs-Assignment) refl)

pub run_stmt-returns-in-While-clause-runs : goal.run_stmt-returns-in-While-clause-runs
unfolding after Goes
run_stmt-returns-in-While-clause-runs g t c k =
    let rules = under g.H.Host.name_of c.args.self.now g.T.NativeTable.natives in
    begins_stmt rules _ c.args.run.now.global c.charge_stmt.new.global _ _ (c.if-not-charge_stmt.ensures.room refl)
    (c.if-not-charge_stmt.ensures.charged refl) _ _ (layer.While c.in-While.test c.in-While.body c.in-While.field-2) (rw (
      c.in-While.is,
      stmts.outs-While,
    ) refl) k
    ⨾ next (c.run_while.ensures.runs k)

pub run_stmt-returns-in-Do-clause-runs : goal.run_stmt-returns-in-Do-clause-runs
unfolding after Goes
run_stmt-returns-in-Do-clause-runs g t c k =
    let rules = under g.H.Host.name_of c.args.self.now g.T.NativeTable.natives in
    begins_stmt rules _ c.args.run.now.global c.charge_stmt.new.global _ _ (c.if-not-charge_stmt.ensures.room refl)
    (c.if-not-charge_stmt.ensures.charged refl) _ _ (layer.Do c.in-Do.test c.in-Do.body c.in-Do.options c.in-Do.field-3) (rw (
      c.in-Do.is,
      stmts.outs-Do,
    ) refl) k
    ⨾ next (c.run_do.ensures.runs k)

pub run_stmt-returns-in-BreakLoop-clause-runs : goal.run_stmt-returns-in-BreakLoop-clause-runs
run_stmt-returns-in-BreakLoop-clause-runs g t c =
    let rules = under g.H.Host.name_of c.args.self.now g.T.NativeTable.natives in
    rw c.run_break.ensures.stops (opens_stmt rules _ c.args.run.now.global c.charge_stmt.new.global _ _
    (c.if-not-charge_stmt.ensures.room refl) (c.if-not-charge_stmt.ensures.charged refl)
    (state_in (g.T.NativeTable.state c.run_break.new.table) c.run_break.new.run) (Err (error_in c.run_break.new.run.error)) _ _ _
    (c.run_break.ensures.runs c.args.restoring) (rw (c.in-BreakLoop.is, stmts.outs-BreakLoop) refl))

pub run_stmt-returns-in-Return-clause-runs : goal.run_stmt-returns-in-Return-clause-runs
run_stmt-returns-in-Return-clause-runs g t c =
    let rules = under g.H.Host.name_of c.args.self.now g.T.NativeTable.natives in
    rw c.run_return.ensures.stops (opens_stmt rules _ c.args.run.now.global c.charge_stmt.new.global _ _
    (c.if-not-charge_stmt.ensures.room refl) (c.if-not-charge_stmt.ensures.charged refl)
    (state_in (g.T.NativeTable.state c.run_return.new.table) c.run_return.new.run) (Err (error_in c.run_return.new.run.error)) _ _ _
    (c.run_return.ensures.runs c.args.restoring) (rw (c.in-Return.is, stmts.outs-Return) refl))

pub run_stmt-run_switch-requires : goal.run_stmt-run_switch-requires
unfolding ChangesNames KeepsNames RestoresNames SuitsNames
run_stmt-run_switch-requires g t c =
    let form : out-Stmt c.args.stmt.now ≡ layer.Switch c.in-Switch.expr c.in-Switch.expressions c.in-Switch.cases c.in-Switch.ranges
    c.in-Switch.def_case c.in-Switch.pos = rw (c.in-Switch.is, stmts.outs-Switch) refl in
    let suits = same c.charge_stmt.ensures.sight refl c.requires.resolves in
    λ κs lives. (
      omega (
        arith,
        (c.if-not-charge_stmt.ensures.room refl),
        ap (λ (global : RunState _). global.num_operations) (c.if-not-charge_stmt.ensures.charged refl),
      ),
      (
        lives.0,
        (
          lives.1,
          (
            brings (λ frame h. (switch_resolves c.args.stmt.now frame h c.in-Switch.expr c.in-Switch.expressions c.in-Switch.cases
                c.in-Switch.ranges c.in-Switch.def_case c.in-Switch.pos form).1.0) suits,
            rw c.as_slice-in-Switch.ensures (brings (λ frame h. (switch_resolves c.args.stmt.now frame h c.in-Switch.expr
                c.in-Switch.expressions c.in-Switch.cases c.in-Switch.ranges c.in-Switch.def_case c.in-Switch.pos form).1.1) suits),
          ),
        ),
      ),
    )

pub run_stmt-returns-in-Switch-clause-runs : goal.run_stmt-returns-in-Switch-clause-runs
run_stmt-returns-in-Switch-clause-runs g t c =
    let rules = under g.H.Host.name_of c.args.self.now g.T.NativeTable.natives in
    opens_stmt rules _ c.args.run.now.global c.charge_stmt.new.global _ _ (c.if-not-charge_stmt.ensures.room refl)
    (c.if-not-charge_stmt.ensures.charged refl) _ _ _ _ (layer.Switch c.in-Switch.expr c.in-Switch.expressions
    c.in-Switch.cases c.in-Switch.ranges c.in-Switch.def_case c.in-Switch.pos)
    (rw (c.as_slice-in-Switch.ensures, c.as_slice-in-Switch-2.ensures, c.as_slice-in-Switch-3.ensures)
    at c.run_switch.ensures.runs c.in-Switch.pos c.args.restoring)
    (rw (c.in-Switch.is, stmts.outs-Switch) refl)

pub run_stmt-run_for-requires : goal.run_stmt-run_for-requires
unfolding ChangesNames KeepsNames RestoresNames SuitsNames
run_stmt-run_for-requires g t c =
    let form : out-Stmt c.args.stmt.now ≡ layer.For c.in-For.name c.in-For.counter c.in-For.expr c.in-For.body c.in-For.pos =
    rw (c.in-For.is, stmts.outs-For) refl in
    let suits = same c.charge_stmt.ensures.sight refl c.requires.resolves in
    λ κs lives. (
      omega (
        arith,
        (c.if-not-charge_stmt.ensures.room refl),
        ap (λ (global : RunState _). global.num_operations) (c.if-not-charge_stmt.ensures.charged refl),
      ),
      (
        lives.0,
        (
          lives.1,
          (
            brings (λ frame h. (for_resolves c.args.stmt.now frame h c.in-For.name c.in-For.counter c.in-For.expr c.in-For.body
                c.in-For.pos form).0) suits,
            brings (λ frame h. (for_resolves c.args.stmt.now frame h c.in-For.name c.in-For.counter c.in-For.expr c.in-For.body
                c.in-For.pos form).1) suits,
          ),
        ),
      ),
    )

pub run_stmt-returns-in-For-clause-runs : goal.run_stmt-returns-in-For-clause-runs
run_stmt-returns-in-For-clause-runs g t c =
    let rules = under g.H.Host.name_of c.args.self.now g.T.NativeTable.natives in
    opens_stmt rules _ c.args.run.now.global c.charge_stmt.new.global _ _ (c.if-not-charge_stmt.ensures.room refl)
    (c.if-not-charge_stmt.ensures.charged refl) _ _ _ _ (layer.For c.in-For.name c.in-For.counter c.in-For.expr c.in-For.body c.in-For.pos)
    (c.run_for.ensures.runs c.in-For.pos c.args.restoring)
    (rw (c.in-For.is, stmts.outs-For) refl)

pub run_stmt-run_try-requires : goal.run_stmt-run_try-requires
unfolding ChangesNames KeepsNames RestoresNames SuitsNames
run_stmt-run_try-requires g t c =
    let form : out-Stmt c.args.stmt.now ≡ layer.TryCatch c.in-TryCatch.body c.in-TryCatch.variable c.in-TryCatch.branch
    c.in-TryCatch.field-3 = rw (c.in-TryCatch.is, stmts.outs-TryCatch) refl in
    let suits = same c.charge_stmt.ensures.sight refl c.requires.resolves in
    let resolves = try_resolves c.args.stmt.now suits.known suits.holds c.in-TryCatch.body c.in-TryCatch.variable c.in-TryCatch.branch
    c.in-TryCatch.field-3 form in
    λ κs lives. (
      omega (
        arith,
        (c.if-not-charge_stmt.ensures.room refl),
        ap (λ (global : RunState _). global.num_operations) (c.if-not-charge_stmt.ensures.charged refl),
      ),
      (
        lives.0,
        (lives.1, (at_known suits resolves.0, catches (catch_of c.in-TryCatch.variable) (λ name. at_known suits) resolves.1)),
      ),
    )

pub run_stmt-returns-in-TryCatch-clause-runs : goal.run_stmt-returns-in-TryCatch-clause-runs
run_stmt-returns-in-TryCatch-clause-runs g t c =
    let rules = under g.H.Host.name_of c.args.self.now g.T.NativeTable.natives in
    opens_stmt rules _ c.args.run.now.global c.charge_stmt.new.global _ _ (c.if-not-charge_stmt.ensures.room refl)
    (c.if-not-charge_stmt.ensures.charged refl) _ _ _ _ (layer.TryCatch c.in-TryCatch.body c.in-TryCatch.variable
    c.in-TryCatch.branch c.in-TryCatch.field-3)
    (c.run_try.ensures.runs c.in-TryCatch.field-3 c.args.restoring)
    (rw (c.in-TryCatch.is, stmts.outs-TryCatch) refl)

pub run_stmt-share_variables-requires : goal.run_stmt-share_variables-requires
unfolding ChangesNames KeepsNames RestoresNames SuitsNames
run_stmt-share_variables-requires g t c =
    let form : out-Stmt c.args.stmt.now ≡ layer.Share c.in-Share.variables = rw (c.in-Share.is, stmts.outs-Share) refl in
    rw c.as_slice-names.ensures (same c.charge_stmt.ensures.sight refl
    (brings (λ frame h. share_resolves c.args.stmt.now frame h c.in-Share.variables form) c.requires.resolves))

pub run_stmt-returns-in-Share-clause-runs : goal.run_stmt-returns-in-Share-clause-runs
unfolding after Goes
run_stmt-returns-in-Share-clause-runs g t c k =
    let rules = under g.H.Host.name_of c.args.self.now g.T.NativeTable.natives in
    begins_stmt rules _ c.args.run.now.global c.charge_stmt.new.global _ _ (c.if-not-charge_stmt.ensures.room refl)
    (c.if-not-charge_stmt.ensures.charged refl) _ _ (layer.Share c.in-Share.variables) (rw (c.in-Share.is, stmts.outs-Share) refl) k
    ⨾ next ((rw c.as_slice-names.ensures at c.share_variables.ensures.runs
    (holding c.args.run.now.this)) k)

pub run_stmt-returns-in-Export-clause-runs : goal.run_stmt-returns-in-Export-clause-runs
run_stmt-returns-in-Export-clause-runs g t c =
    let rules = under g.H.Host.name_of c.args.self.now g.T.NativeTable.natives in
    opens_stmt rules _ c.args.run.now.global c.charge_stmt.new.global _ _ (c.if-not-charge_stmt.ensures.room refl)
    (c.if-not-charge_stmt.ensures.charged refl) _ _ _ _ (layer.Export c.in-Export.ident c.in-Export.alias c.in-Export.field-2)
    (c.export_variable.ensures.runs c.charge_stmt.new.global (holding c.args.run.now.this) c.in-Export.field-2 c.args.restoring)
    (rw (c.in-Export.is, stmts.outs-Export) refl)

pub run_stmt-run_var-requires : goal.run_stmt-run_var-requires
unfolding ChangesNames KeepsNames RestoresNames SuitsNames
run_stmt-run_var-requires g t c =
    λ κs lives. (
      omega (
        arith,
        (c.if-not-charge_stmt.ensures.room refl),
        ap (λ (global : RunState _). global.num_operations) (c.if-not-charge_stmt.ensures.charged refl),
      ),
      (
        lives.0,
        (
          lives.1,
          same c.charge_stmt.ensures.sight refl (brings (λ frame. declared_resolves c.args.stmt.now frame c.in-Var.ident c.in-Var.value
              c.in-Var.index c.in-Var.options c.in-Var.pos (rw (c.in-Var.is, stmts.outs-Var) refl)) c.requires.resolves),
        ),
      ),
    )

pub run_stmt-returns-in-Var-clause-names : goal.run_stmt-returns-in-Var-clause-names
unfolding ChangesNames KeepsNames RestoresNames SuitsNames
run_stmt-returns-in-Var-clause-names g t c done = stmt_declares c.args.stmt.now (names c.args.run.now) c.in-Var.ident c.in-Var.value
    c.in-Var.index c.in-Var.options c.in-Var.pos (rw (c.in-Var.is, stmts.outs-Var) refl) c.charge_stmt.ensures.sight
    (c.run_var.ensures.names done)

pub run_stmt-returns-in-Var-clause-runs : goal.run_stmt-returns-in-Var-clause-runs
run_stmt-returns-in-Var-clause-runs g t c =
    let rules = under g.H.Host.name_of c.args.self.now g.T.NativeTable.natives in
    opens_stmt rules _ c.args.run.now.global c.charge_stmt.new.global _ _ (c.if-not-charge_stmt.ensures.room refl)
    (c.if-not-charge_stmt.ensures.charged refl) _ _ _ _ _ c.run_var.ensures.runs (rw (c.in-Var.is, stmts.outs-Var) refl)

pub run_stmt-returns-in-Import-clause-runs : goal.run_stmt-returns-in-Import-clause-runs
run_stmt-returns-in-Import-clause-runs g t c =
    let rules = under g.H.Host.name_of c.args.self.now g.T.NativeTable.natives in
    opens_stmt rules _ c.args.run.now.global c.charge_stmt.new.global _ _ (c.if-not-charge_stmt.ensures.room refl)
    (c.if-not-charge_stmt.ensures.charged refl) _ _ _ _ (layer.Import c.in-Import.path c.in-Import.alias c.in-Import.pos)
    (c.run_import.ensures.runs c.args.restoring) (rw (c.in-Import.is, stmts.outs-Import) refl)

-- a condition, and the list that it chooses

pub run_if-returns-in-None-clause-runs : goal.run_if-returns-in-None-clause-runs
unfolding after Goes Tests
run_if-returns-in-None-clause-runs g t c pos restoring k = next (c.in-None.ensures.runs (IfCondition _ _ _) refl k)

pub run_if-returns-in-Some-clause-runs : goal.run_if-returns-in-Some-clause-runs
unfolding after Goes Tests
run_if-returns-in-Some-clause-runs g t c pos restoring k =
    let rules = under g.H.Host.name_of c.args.self.now g.T.NativeTable.natives in
    next (c.in-Some.ensures.runs (IfCondition _ _ _) refl k
    ⨾ chooses rules c.in-Some.holds c.args.body.now c.args.branch.now k _
    ((rw c.choose_list-statements.ensures at c.run_stmt_block.ensures.runs) k))

-- an assignment

pub run_assignment-returns-in-Some-clause-runs : goal.run_assignment-returns-in-Some-clause-runs
run_assignment-returns-in-Some-clause-runs g t c restoring =
    c.in-Some.ensures.runs (holding c.args.run.now.this) restoring

pub run_assignment-assign_evaluated-requires : goal.run_assignment-assign_evaluated-requires
unfolding ChangesNames KeepsNames RestoresNames SuitsNames
run_assignment-assign_evaluated-requires g t c =
    let sight = c.assign_at_once-at_once.ensures.sight in
    let stay = c.assign_at_once-at_once.ensures.keeps.names in
    λ κs lives. (
      omega (arith, c.assign_at_once-at_once.ensures.keeps.counts),
      (lives.0, (lives.1, (same sight stay c.requires.resolves_target, same sight stay c.requires.resolves))),
    )

pub run_assignment-returns-in-Some-clause-names : goal.run_assignment-returns-in-Some-clause-names
unfolding ChangesNames KeepsNames RestoresNames SuitsNames
run_assignment-returns-in-Some-clause-names g t c done =
    stays c.assign_at_once-at_once.ensures.sight c.assign_at_once-at_once.ensures.keeps.names

pub run_assignment-returns-clause-names : goal.run_assignment-returns-clause-names
unfolding ChangesNames KeepsNames RestoresNames SuitsNames
run_assignment-returns-clause-names g t c done =
    leads_then (stays c.assign_at_once-at_once.ensures.sight c.assign_at_once-at_once.ensures.keeps.names)
    (c.assign_evaluated.ensures.names done)

pub assign_evaluated-returns-else-not-flatten_at-clause-names : goal.assign_evaluated-returns-else-not-flatten_at-clause-names
unfolding ChangesNames KeepsNames RestoresNames SuitsNames
assign_evaluated-returns-else-not-flatten_at-clause-names g t c done =
    leads_then (c.if-not-run_expr.ensures.names refl) (stays c.assign_from_run.ensures.sight c.assign_from_run.ensures.names)

pub assign_evaluated-returns-else-not-flatten_at-2-clause-names : goal.assign_evaluated-returns-else-not-flatten_at-2-clause-names
unfolding ChangesNames KeepsNames RestoresNames SuitsNames
assign_evaluated-returns-else-not-flatten_at-2-clause-names g t c done =
    leads_then (c.if-not-run_expr-2.ensures.names refl) (stays c.assign_this_from_run.ensures.sight refl)

pub run_import-returns-clause-names : goal.run_import-returns-clause-names
unfolding ChangesNames KeepsNames RestoresNames SuitsNames
run_import-returns-clause-names g t c done =
    leads_by (with_import (name_asked c.args.alias.now)) (c.if-not-run_expr.ensures.names refl)
    (imported (name_asked c.args.alias.now) (c.import_module.ensures.sight done) refl)

pub run_stmt_block-returns-then-is_empty-clause-restores : goal.run_stmt_block-returns-then-is_empty-clause-restores
unfolding RestoresNames
run_stmt_block-returns-then-is_empty-clause-restores g t c restoring = record { sight = refl; names = refl }

pub run_if-run_stmt_block-requires : goal.run_if-run_stmt_block-requires
unfolding ChangesNames KeepsNames RestoresNames SuitsNames
run_if-run_stmt_block-requires g t c =
    λ κs lives. (
      omega (arith, c.in-Some.ensures.charges),
      (
        lives.0,
        (
          lives.1,
          rw c.choose_list-statements.ensures (chosen_suits c.in-Some.holds c.args.body.now c.args.branch.now
              (still c.in-Some.ensures.names c.requires.resolves_body) (still c.in-Some.ensures.names c.requires.resolves_branch)),
        ),
      ),
    )

pub run_if-returns-in-Some-clause-names : goal.run_if-returns-in-Some-clause-names
unfolding ChangesNames KeepsNames RestoresNames SuitsNames
run_if-returns-in-Some-clause-names g t c done =
    leads_then c.in-Some.ensures.names (put_back (c.run_stmt_block.ensures.restores refl))

-- whose value is evaluated, to a variable

pub assign_evaluated-returns-then-not-run_expr-clause-runs : goal.assign_evaluated-returns-then-not-run_expr-clause-runs
unfolding after Goes
assign_evaluated-returns-then-not-run_expr-clause-runs g t c restoring k =
    let rules = under g.H.Host.name_of c.args.self.now g.T.NativeTable.natives in
    begins_assignment rules c.args.op c.args.lhs.now c.args.rhs.now c.in-Variable.offset c.in-Variable.name c.in-Variable.namespace
    c.in-Variable.pos
    restoring k _ (rw (c.in-Variable.is, exprs.outs-Variable) refl)
    ⨾ c.if-not-run_expr.ensures.runs (AssignValue _ _ ∷ k) ⨾ next here

pub assign_evaluated-returns-then-not-flatten_at-clause-runs : goal.assign_evaluated-returns-then-not-flatten_at-clause-runs
unfolding after Goes
assign_evaluated-returns-then-not-flatten_at-clause-runs g t c restoring k =
    let rules = under g.H.Host.name_of c.args.self.now g.T.NativeTable.natives in
    begins_assignment rules c.args.op c.args.lhs.now c.args.rhs.now c.in-Variable.offset c.in-Variable.name c.in-Variable.namespace
    c.in-Variable.pos
    restoring k _ (rw (c.in-Variable.is, exprs.outs-Variable) refl)
    ⨾ c.if-not-run_expr.ensures.runs (AssignValue _ _ ∷ k)
    ⨾ flat_fails rules _ _ k _ _ (AssignValue _ _) refl c.if-not-flatten_at.ensures.exact

pub assign_evaluated-assign_from_run-requires : goal.assign_evaluated-assign_from_run-requires
unfolding ChangesNames KeepsNames RestoresNames SuitsNames
assign_evaluated-assign_from_run-requires g t c =
    still (c.if-not-run_expr.ensures.names refl)
    (brings (λ frame. good_target c.args.lhs.now c.in-Variable.offset c.in-Variable.name c.in-Variable.namespace c.in-Variable.pos frame
    (rw (c.in-Variable.is, exprs.outs-Variable) refl)) c.requires.resolves_target)

pub assign_evaluated-returns-else-not-flatten_at-clause-runs : goal.assign_evaluated-returns-else-not-flatten_at-clause-runs
unfolding after Goes
assign_evaluated-returns-else-not-flatten_at-clause-runs g t c restoring k =
    let rules = under g.H.Host.name_of c.args.self.now g.T.NativeTable.natives in
    begins_assignment rules c.args.op c.args.lhs.now c.args.rhs.now c.in-Variable.offset c.in-Variable.name c.in-Variable.namespace
    c.in-Variable.pos
    restoring k _ (rw (c.in-Variable.is, exprs.outs-Variable) refl)
    ⨾ c.if-not-run_expr.ensures.runs (AssignValue _ _ ∷ k)
    ⨾ next (rw (← (c.if-not-flatten_at.ensures.exact tt))
    (c.assign_from_run.ensures.runs (holding c.run_expr.new.run.this) k))

-- to `this`

pub assign_evaluated-returns-then-is_none-clause-runs : goal.assign_evaluated-returns-then-is_none-clause-runs
unfolding Goes
assign_evaluated-returns-then-is_none-clause-runs g t c restoring k =
    let rules = under g.H.Host.name_of c.args.self.now g.T.NativeTable.natives in
    rw (c.stop.ensures.stopped, c.stop.ensures.told)
    (this_unbound rules c.args.op c.args.lhs.now c.args.rhs.now c.in-ThisPtr.pos restoring
    (rw (c.in-ThisPtr.is, exprs.outs-ThisPtr) refl) k _ (c.is_none.ensures ∙ ap not c.if-is_none.true))

pub assign_evaluated-returns-then-not-run_expr-2-clause-runs : goal.assign_evaluated-returns-then-not-run_expr-2-clause-runs
unfolding after Goes
assign_evaluated-returns-then-not-run_expr-2-clause-runs g t c restoring k =
    let rules = under g.H.Host.name_of c.args.self.now g.T.NativeTable.natives in
    this_begins rules c.args.op c.args.lhs.now c.args.rhs.now c.in-ThisPtr.pos restoring
    (rw (c.in-ThisPtr.is, exprs.outs-ThisPtr) refl) k _ (c.is_none.ensures ∙ ap not c.if-is_none.false)
    ⨾ c.if-not-run_expr-2.ensures.runs (AssignThisValue _ _ _ ∷ k) ⨾ next here

pub assign_evaluated-returns-then-not-flatten_at-2-clause-runs : goal.assign_evaluated-returns-then-not-flatten_at-2-clause-runs
unfolding Goes
assign_evaluated-returns-then-not-flatten_at-2-clause-runs g t c restoring k =
    let rules = under g.H.Host.name_of c.args.self.now g.T.NativeTable.natives in
    this_begins rules c.args.op c.args.lhs.now c.args.rhs.now c.in-ThisPtr.pos restoring
    (rw (c.in-ThisPtr.is, exprs.outs-ThisPtr) refl) k _ (c.is_none.ensures ∙ ap not c.if-is_none.false)
    ⨾ c.if-not-run_expr-2.ensures.runs (AssignThisValue _ _ _ ∷ k)
    ⨾ flat_fails rules _ _ k _ _ (AssignThisValue _ _ _) refl c.if-not-flatten_at-2.ensures.exact

pub assign_evaluated-returns-else-not-flatten_at-2-clause-runs : goal.assign_evaluated-returns-else-not-flatten_at-2-clause-runs
unfolding after Goes
assign_evaluated-returns-else-not-flatten_at-2-clause-runs g t c restoring k =
    let rules = under g.H.Host.name_of c.args.self.now g.T.NativeTable.natives in
    this_begins rules c.args.op c.args.lhs.now c.args.rhs.now c.in-ThisPtr.pos restoring
    (rw (c.in-ThisPtr.is, exprs.outs-ThisPtr) refl) k _ (c.is_none.ensures ∙ ap not c.if-is_none.false)
    ⨾ c.if-not-run_expr-2.ensures.runs (AssignThisValue _ _ _ ∷ k)
    ⨾ next (rw (← (c.if-not-flatten_at-2.ensures.exact tt))
    (c.assign_this_from_run.ensures.runs c.run_expr-in-ThisPtr.new.run.scope k))

-- a new variable

pub run_var-returns-then-not-is_declarable-clause-runs : goal.run_var-returns-then-not-is_declarable-clause-runs
unfolding after Goes
run_var-returns-then-not-is_declarable-clause-runs g t c k =
    let rules = under g.H.Host.name_of c.args.self.now g.T.NativeTable.natives in
    not_declared rules c.args.declaration.now.ident.now c.args.value.now c.args.declaration.now.index c.args.declaration.now.options
    c.args.declaration.now.at c.args.declaration.now.restoring k _ _
    c.if-not-is_declarable.ensures

pub run_var-run_expr-requires : goal.run_var-run_expr-requires
unfolding ChangesNames KeepsNames RestoresNames SuitsNames
run_var-run_expr-requires g t c =
    λ κs lives. (
      omega arith,
      (
        lives.0,
        (
          lives.1,
          brings (λ frame. var_value c.args.declaration.now.index c.args.declaration.now.ident.now c.args.value.now
              c.args.declaration.now.options c.args.declaration.now.at frame) c.requires.resolves,
        ),
      ),
    )

pub run_var-declare-requires : goal.run_var-declare-requires
unfolding ChangesNames KeepsNames RestoresNames SuitsNames
run_var-declare-requires g t c =
    still (c.if-not-run_expr.ensures.names refl) (brings (λ frame. var_good c.args.declaration.now.index c.args.declaration.now.ident.now
    c.args.value.now c.args.declaration.now.options c.args.declaration.now.at frame) c.requires.resolves)

pub run_var-returns-then-not-run_expr-clause-runs : goal.run_var-returns-then-not-run_expr-clause-runs
unfolding after Goes
run_var-returns-then-not-run_expr-clause-runs g t c k =
    let rules = under g.H.Host.name_of c.args.self.now g.T.NativeTable.natives in
    begins_value rules c.args.declaration.now.ident.now c.args.value.now c.args.declaration.now.index c.args.declaration.now.options
    c.args.declaration.now.at c.args.declaration.now.restoring k _
    (c.if-not-is_declarable.ensures tt)
    ⨾ c.if-not-run_expr.ensures.runs (DefineValue _ _ _ _ _ ∷ k) ⨾ next here

pub run_var-returns-then-not-flatten_at-clause-runs : goal.run_var-returns-then-not-flatten_at-clause-runs
unfolding after Goes
run_var-returns-then-not-flatten_at-clause-runs g t c k =
    let rules = under g.H.Host.name_of c.args.self.now g.T.NativeTable.natives in
    begins_value rules c.args.declaration.now.ident.now c.args.value.now c.args.declaration.now.index c.args.declaration.now.options
    c.args.declaration.now.at c.args.declaration.now.restoring k _
    (c.if-not-is_declarable.ensures tt)
    ⨾ c.if-not-run_expr.ensures.runs (DefineValue _ _ _ _ _ ∷ k)
    ⨾ flat_fails rules _ _ k _ _ (DefineValue _ _ _ _ _) refl c.if-not-flatten_at.ensures.exact

pub run_var-returns-clause-names : goal.run_var-returns-clause-names
unfolding ChangesNames KeepsNames RestoresNames SuitsNames
run_var-returns-clause-names g t c done = leads_by (naming (var_names c.args.declaration.now.index c.args.declaration.now.ident.now.name))
    (c.if-not-run_expr.ensures.names refl)
    (changed (var_names c.args.declaration.now.index c.args.declaration.now.ident.now.name) c.declare.ensures.sight
    (c.declare.ensures.names done))

pub run_var-returns-clause-runs : goal.run_var-returns-clause-runs
unfolding Goes
run_var-returns-clause-runs g t c k =
    let rules = under g.H.Host.name_of c.args.self.now g.T.NativeTable.natives in
    let old = c.run_expr.new.run in
    begins_value rules c.args.declaration.now.ident.now c.args.value.now c.args.declaration.now.index c.args.declaration.now.options
    c.args.declaration.now.at c.args.declaration.now.restoring k _
    (c.if-not-is_declarable.ensures tt)
    ⨾ c.if-not-run_expr.ensures.runs (DefineValue _ _ _ _ _ ∷ k)
    ⨾ declared rules _ old.global c.declare.new.global old.scope c.declare.new.scope (holding old.this) c.args.declaration.now.ident.now
    c.args.declaration.now.index
    c.args.declaration.now.options c.args.declaration.now.restoring _ c.flatten_at.new.out _ k c.declare.result c.declare.new.out
    c.declare.new.place
    (c.if-not-flatten_at.ensures.exact tt) c.declare.ensures.value (c.declare.ensures.declares (holding old.this)) c.declare.ensures.counts
    (c.declare.ensures.misses (holding old.this)) c.declare.ensures.same c.declare.ensures.same_scope

-- a module that is imported

pub run_import-returns-then-not-may_import-clause-runs : goal.run_import-returns-then-not-may_import-clause-runs
unfolding after Goes
run_import-returns-then-not-may_import-clause-runs g t c restoring k =
    let rules = under g.H.Host.name_of c.args.self.now g.T.NativeTable.natives in
    not_imported rules c.args.path.now c.args.alias.now c.args.pos restoring k _ _ c.if-not-may_import.ensures

pub run_import-returns-then-not-run_expr-clause-runs : goal.run_import-returns-then-not-run_expr-clause-runs
unfolding after Goes
run_import-returns-then-not-run_expr-clause-runs g t c restoring k =
    let rules = under g.H.Host.name_of c.args.self.now g.T.NativeTable.natives in
    begins_path rules c.args.path.now c.args.alias.now c.args.pos restoring k _ (c.if-not-may_import.ensures tt)
    ⨾ c.if-not-run_expr.ensures.runs (ImportPath _ _ _ ∷ k) ⨾ next here

pub run_import-returns-clause-runs : goal.run_import-returns-clause-runs
unfolding Goes
run_import-returns-clause-runs g t c restoring k =
    let rules = under g.H.Host.name_of c.args.self.now g.T.NativeTable.natives in
    let old = c.run_expr.new.run in
    begins_path rules c.args.path.now c.args.alias.now c.args.pos restoring k _ (c.if-not-may_import.ensures tt)
    ⨾ c.if-not-run_expr.ensures.runs (ImportPath _ _ _ ∷ k)
    ⨾ imports rules _ old.global c.import_module.new.global old.scope (holding old.this) c.args.alias.now _ _ _ k c.import_module.result
    c.import_module.new.out c.import_module.new.place c.import_module.ensures.value
    (c.import_module.ensures.imports old.scope (holding old.this)) c.import_module.ensures.counts c.import_module.ensures.refused
    c.import_module.ensures.same

-- lists

pub run_stmt_block-returns-then-is_empty-clause-runs : goal.run_stmt_block-returns-then-is_empty-clause-runs
unfolding after Goes
run_stmt_block-returns-then-is_empty-clause-runs g t c k =
    let rules = under g.H.Host.name_of c.args.self.now g.T.NativeTable.natives in
    enters_empty rules c.args.statements.now c.args.restoring k _ (is_empty_list _ (sym c.is_empty.ensures ∙ c.if-is_empty.true))
    ⨾ rw c.put_unit.ensures here

pub run_stmt_block-returns-then-not-restoring-clause-runs : goal.run_stmt_block-returns-then-not-restoring-clause-runs
unfolding after Goes
run_stmt_block-returns-then-not-restoring-clause-runs g t c k =
    let rules = under g.H.Host.name_of c.args.self.now g.T.NativeTable.natives in
    rw (c.if-not-restoring.true, c.leave_plain_list.ensures)
    (enters_plain rules c.args.statements.now k _ (is_not_empty _ (sym c.is_empty.ensures ∙ c.if-is_empty.false))
    ⨾ (rw (c.if-not-restoring.true, c.enter_plain_list-mark.ensures) at c.run_statements-ended.ensures.runs) k)

pub run_stmt_block-open_list-requires : goal.run_stmt_block-open_list-requires
unfolding SuitsNames
run_stmt_block-open_list-requires g t c = record { resolves = c.requires.resolves }

pub run_stmt_block-returns-in_default-clause-runs : goal.run_stmt_block-returns-in_default-clause-runs
run_stmt_block-returns-in_default-clause-runs g t c =
    rw (c.if-not-restoring.false, c.put_unit-in_default.ensures)
    (c.open_list.ensures.done c.in_default.is (holding c.args.run.now.this))

pub run_stmt_block-returns-in_default-clause-restores : goal.run_stmt_block-returns-in_default-clause-restores
unfolding ChangesNames KeepsNames RestoresNames SuitsNames
run_stmt_block-returns-in_default-clause-restores g t c restoring =
    record { sight = c.open_list.ensures.sight; names = c.open_list.ensures.names }

pub run_stmt_block-returns-clause-runs : goal.run_stmt_block-returns-clause-runs
unfolding after Goes
run_stmt_block-returns-clause-runs g t c k =
    let rules = under g.H.Host.name_of c.args.self.now g.T.NativeTable.natives in
    let new = c.run_statements-done.new.run in
    rw c.if-not-restoring.false
    (enters_restoring rules c.args.statements.now k _ (is_not_empty _ (sym c.is_empty.ensures ∙ c.if-is_empty.false))
    ⨾ (rw (c.if-not-restoring.false, c.in-Some.ensures.deeper, c.in-Some.ensures.scope) at c.run_statements-done.ensures.runs)
    (RestoreList _ ∷ k)
    ⨾ restores rules (came c.run_statements-done.result new.value new.error) _ k _ _
    (left_state _ new.global c.leave_list.new.global new.scope c.leave_list.new.scope _
    c.in-Some.saved _ c.in-Some.ensures.saved c.leave_list.ensures.scope c.leave_list.ensures.global))

pub run_stmt_block-returns-clause-restores : goal.run_stmt_block-returns-clause-restores
unfolding ChangesNames KeepsNames RestoresNames SuitsNames
run_stmt_block-returns-clause-restores g t c restoring =
    let rules = under g.H.Host.name_of c.args.self.now g.T.NativeTable.natives in
    record {
      sight = sight_left c.args.run.now.global c.run_statements-done.new.run.global c.leave_list.new.global c.in-Some.saved
          (ap (λ s. s.imports_length) c.in-Some.ensures.saved) c.in-Some.ensures.searches
          (imports_begin rules _ _ _ _ tt (rw c.in-Some.ensures.deeper at c.run_statements-done.ensures.runs)) c.leave_list.ensures.global;
      names = names_restored c.args.run.now.scope.entries c.run_statements-done.new.run.scope.entries _ _ c.leave_list.ensures.scope
          (ap (λ s. s.scope_length) c.in-Some.ensures.saved)
          (names_begin rules _ _ _ _ tt (rw c.in-Some.ensures.scope at c.run_statements-done.ensures.runs));
    }

last_after : {H : Type 0} (index : ℕ) (value : Dynamic H) → last_of (index + 1) value ≡ value
last_after index value = rw add-one refl

last_at : {H : Type 0} (index : ℕ) (value : Dynamic H) → 1 ≤ index → last_of index value ≡ value
last_at zero value some = absurd (omega (arith, some))
last_at (suc index) value some = refl

pub run_stmt_block-run_statements-ended-requires : goal.run_stmt_block-run_statements-ended-requires
unfolding ChangesNames KeepsNames RestoresNames SuitsNames
run_stmt_block-run_statements-ended-requires g t c =
    rw c.enter_plain_list-mark.ensures (λ κs lives. (
      omega arith,
      (
        lives.0,
        (
          lives.1,
          (
            has_some c.args.statements.now (is_not_empty _ (sym c.is_empty.ensures ∙ c.if-is_empty.false)),
            c.requires.resolves,
          ),
        ),
      ),
    ))

pub run_stmt_block-run_statements-done-requires : goal.run_stmt_block-run_statements-done-requires
unfolding ChangesNames KeepsNames RestoresNames SuitsNames
run_stmt_block-run_statements-done-requires g t c =
    let some = has_some c.args.statements.now (is_not_empty _ (sym c.is_empty.ensures ∙ c.if-is_empty.false)) in
    λ κs lives. (
      omega (arith, ap (λ (global : RunState _). global.num_operations) c.in-Some.ensures.deeper),
      (lives.0, (lives.1, (some, same c.open_list.ensures.sight c.open_list.ensures.names c.requires.resolves))),
    )

pub run_statements-each_stmt-init : goal.run_statements-each_stmt-init
unfolding after Goes ChangesNames KeepsNames RestoresNames SuitsNames
run_statements-each_stmt-init g t c = record { counts = omega arith; resolves = c.requires.resolves; steps = λ k. here }

pub run_statements-each_stmt-preserved : goal.run_statements-each_stmt-preserved
unfolding after Goes ChangesNames KeepsNames RestoresNames SuitsNames
run_statements-each_stmt-preserved g t c =
    record {
      counts = omega (arith, c.if-not-run_stmt.ensures.charges refl);
      resolves = rest_suits c.stmt-item.result (drop (c.each_stmt.stmt-index + 1) c.args.statements.now)
          (c.if-not-run_stmt.ensures.names refl)
          (rw (drop_item _ _ _ c.each_stmt-test.true c.stmt-item.is) at c.each_stmt.invariant.resolves);
      steps = λ k. c.each_stmt.invariant.steps k ⨾ rw (
        drop_item _ _ _ c.each_stmt-test.true c.stmt-item.is,
        last_after c.each_stmt.stmt-index c.run_stmt.new.run.value,
      ) (next (c.if-not-run_stmt.ensures.runs (RestOfList _ _ ∷ k) ⨾ next here));
    }

pub run_statements-returns-then-not-run_stmt-clause-runs : goal.run_statements-returns-then-not-run_stmt-clause-runs
unfolding after Goes
run_statements-returns-then-not-run_stmt-clause-runs g t c k =
    c.each_stmt.invariant.steps k ⨾ rw (drop_item _ _ _ c.each_stmt-test.true c.stmt-item.is)
    (next (c.if-not-run_stmt.ensures.runs (RestOfList _ _ ∷ k) ⨾ next here))

pub run_statements-returns-clause-runs : goal.run_statements-returns-clause-runs
unfolding after Goes
run_statements-returns-clause-runs g t c k =
    let passed : 1 ≤ c.each_stmt.stmt-index = omega (arith, c.requires.some, c.each_stmt-test.false) in
    c.each_stmt.invariant.steps k ⨾ rw (drop_all _ _ c.each_stmt-test.false, last_at c.each_stmt.stmt-index c.each_stmt.run.value passed)
    (next here)

pub run_statements-returns-then-not-run_stmt-clause-memory : goal.run_statements-returns-then-not-run_stmt-clause-memory
unfolding ChangesNames KeepsNames RestoresNames SuitsNames
run_statements-returns-then-not-run_stmt-clause-memory g t c full =
    any_item asks_stmt c.args.statements.now c.each_stmt.stmt-index c.stmt-item.result c.each_stmt-test.true c.stmt-item.is
    (c.if-not-run_stmt.ensures.memory full)

-- what the parts of a statement suit, and the names behind it

pub run_stmt-run_expr-requires : goal.run_stmt-run_expr-requires
unfolding ChangesNames KeepsNames RestoresNames SuitsNames
run_stmt-run_expr-requires g t c =
    let suits = stmt_suits c.args.stmt.now (layer.Expr c.in-Expr.expr) (rw (c.in-Expr.is, stmts.outs-Expr) refl)
    c.charge_stmt.ensures.sight c.requires.resolves in
    λ κs lives. (
      omega (
        arith,
        (c.if-not-charge_stmt.ensures.room refl),
        ap (λ (global : RunState _). global.num_operations) (c.if-not-charge_stmt.ensures.charged refl),
      ),
      (lives.0, (lives.1, suits)),
    )

pub run_stmt-run_fn_call_expr-requires : goal.run_stmt-run_fn_call_expr-requires
unfolding ChangesNames KeepsNames RestoresNames SuitsNames
run_stmt-run_fn_call_expr-requires g t c =
    let suits = stmt_suits c.args.stmt.now (layer.Stmt::FnCall c.in-FnCall.call c.in-FnCall.pos)
    (rw (c.in-FnCall.is, stmts.outs-FnCall) refl)
    c.charge_stmt.ensures.sight c.requires.resolves in
    λ κs lives. (
      omega (
        arith,
        (c.if-not-charge_stmt.ensures.room refl),
        ap (λ (global : RunState _). global.num_operations) (c.if-not-charge_stmt.ensures.charged refl),
      ),
      (lives.0, (lives.1, suits)),
    )

pub run_stmt-run_stmt_block-requires : goal.run_stmt-run_stmt_block-requires
unfolding ChangesNames KeepsNames RestoresNames SuitsNames
run_stmt-run_stmt_block-requires g t c =
    let suits = stmt_suits c.args.stmt.now (layer.Block c.in-Block.block) (rw (c.in-Block.is, stmts.outs-Block) refl)
    c.charge_stmt.ensures.sight c.requires.resolves in
    λ κs lives. (
      omega (
        arith,
        (c.if-not-charge_stmt.ensures.room refl),
        ap (λ (global : RunState _). global.num_operations) (c.if-not-charge_stmt.ensures.charged refl),
      ),
      (lives.0, (lives.1, rw c.as_slice.ensures (block_suits c.in-Block.block suits))),
    )

pub run_stmt-run_if-requires : goal.run_stmt-run_if-requires
unfolding ChangesNames KeepsNames RestoresNames SuitsNames
run_stmt-run_if-requires g t c =
    let suits = stmt_suits c.args.stmt.now (layer.If c.in-If.test c.in-If.body c.in-If.branch c.in-If.field-3)
    (rw (c.in-If.is, stmts.outs-If) refl)
    c.charge_stmt.ensures.sight c.requires.resolves in
    let test = brings (λ frame h. (both _ _ h).0) suits in
    let body = brings (λ frame h. (both _ _ (both _ _ h).1).0) suits in
    let branch = brings (λ frame h. (both _ _ (both _ _ h).1).1) suits in
    λ κs lives. (
      omega (
        arith,
        (c.if-not-charge_stmt.ensures.room refl),
        ap (λ (global : RunState _). global.num_operations) (c.if-not-charge_stmt.ensures.charged refl),
      ),
      (lives.0, (lives.1, (test, (body, branch)))),
    )

pub run_stmt-run_while-requires : goal.run_stmt-run_while-requires
unfolding ChangesNames KeepsNames RestoresNames SuitsNames
run_stmt-run_while-requires g t c =
    let suits = stmt_suits c.args.stmt.now (layer.While c.in-While.test c.in-While.body c.in-While.field-2)
    (rw (c.in-While.is, stmts.outs-While) refl)
    c.charge_stmt.ensures.sight c.requires.resolves in
    λ κs lives. (
      omega (
        arith,
        (c.if-not-charge_stmt.ensures.room refl),
        ap (λ (global : RunState _). global.num_operations) (c.if-not-charge_stmt.ensures.charged refl),
      ),
      (lives.0, (lives.1, (brings (λ frame h. (both _ _ h).0) suits, brings (λ frame h. (both _ _ h).1) suits))),
    )

pub run_stmt-run_do-requires : goal.run_stmt-run_do-requires
unfolding ChangesNames KeepsNames RestoresNames SuitsNames
run_stmt-run_do-requires g t c =
    let suits = stmt_suits c.args.stmt.now (layer.Do c.in-Do.test c.in-Do.body c.in-Do.options c.in-Do.field-3)
    (rw (c.in-Do.is, stmts.outs-Do) refl)
    c.charge_stmt.ensures.sight c.requires.resolves in
    λ κs lives. (
      omega (
        arith,
        (c.if-not-charge_stmt.ensures.room refl),
        ap (λ (global : RunState _). global.num_operations) (c.if-not-charge_stmt.ensures.charged refl),
      ),
      (lives.0, (lives.1, (brings (λ frame h. (both _ _ h).0) suits, brings (λ frame h. (both _ _ h).1) suits))),
    )

pub run_stmt-run_break-requires : goal.run_stmt-run_break-requires
unfolding ChangesNames KeepsNames RestoresNames SuitsNames
run_stmt-run_break-requires g t c =
    let suits = stmt_suits c.args.stmt.now (layer.BreakLoop c.in-BreakLoop.value c.in-BreakLoop.options c.in-BreakLoop.pos)
    (rw (c.in-BreakLoop.is, stmts.outs-BreakLoop) refl)
    c.charge_stmt.ensures.sight c.requires.resolves in
    λ κs lives. (
      omega (
        arith,
        (c.if-not-charge_stmt.ensures.room refl),
        ap (λ (global : RunState _). global.num_operations) (c.if-not-charge_stmt.ensures.charged refl),
      ),
      (lives.0, (lives.1, broken_suits c.in-BreakLoop.value c.in-BreakLoop.options c.in-BreakLoop.pos suits)),
    )

pub run_stmt-run_return-requires : goal.run_stmt-run_return-requires
unfolding ChangesNames KeepsNames RestoresNames SuitsNames
run_stmt-run_return-requires g t c =
    let suits = stmt_suits c.args.stmt.now (layer.Return c.in-Return.value c.in-Return.options c.in-Return.pos)
    (rw (c.in-Return.is, stmts.outs-Return) refl)
    c.charge_stmt.ensures.sight c.requires.resolves in
    λ κs lives. (
      omega (
        arith,
        (c.if-not-charge_stmt.ensures.room refl),
        ap (λ (global : RunState _). global.num_operations) (c.if-not-charge_stmt.ensures.charged refl),
      ),
      (lives.0, (lives.1, returned_suits c.in-Return.value c.in-Return.options c.in-Return.pos suits)),
    )

pub run_stmt-run_import-requires : goal.run_stmt-run_import-requires
unfolding ChangesNames KeepsNames RestoresNames SuitsNames
run_stmt-run_import-requires g t c =
    let suits = stmt_suits c.args.stmt.now (layer.Import c.in-Import.path c.in-Import.alias c.in-Import.pos)
    (rw (c.in-Import.is, stmts.outs-Import) refl)
    c.charge_stmt.ensures.sight c.requires.resolves in
    λ κs lives. (
      omega (
        arith,
        (c.if-not-charge_stmt.ensures.room refl),
        ap (λ (global : RunState _). global.num_operations) (c.if-not-charge_stmt.ensures.charged refl),
      ),
      (lives.0, (lives.1, suits)),
    )

pub run_stmt-returns-in-Noop-clause-names : goal.run_stmt-returns-in-Noop-clause-names
unfolding ChangesNames KeepsNames RestoresNames SuitsNames
run_stmt-returns-in-Noop-clause-names g t c done =
    stmt_keeps c.args.stmt.now (layer.Noop c.in-Noop.field-0) (names c.args.run.now)
    (rw (c.in-Noop.is, stmts.outs-Noop) refl) (λ frame. refl) c.charge_stmt.ensures.sight (stays refl refl)

pub run_stmt-returns-else-not-run_expr-clause-names : goal.run_stmt-returns-else-not-run_expr-clause-names
unfolding ChangesNames KeepsNames RestoresNames SuitsNames
run_stmt-returns-else-not-run_expr-clause-names g t c done =
    stmt_keeps c.args.stmt.now (layer.Expr c.in-Expr.expr) (names c.args.run.now)
    (rw (c.in-Expr.is, stmts.outs-Expr) refl) (λ frame. refl) c.charge_stmt.ensures.sight (c.if-not-run_expr.ensures.names refl)

pub run_stmt-returns-in-FnCall-clause-names : goal.run_stmt-returns-in-FnCall-clause-names
unfolding ChangesNames KeepsNames RestoresNames SuitsNames
run_stmt-returns-in-FnCall-clause-names g t c done =
    stmt_keeps c.args.stmt.now (layer.Stmt::FnCall c.in-FnCall.call c.in-FnCall.pos) (names c.args.run.now)
    (rw (c.in-FnCall.is, stmts.outs-FnCall) refl) (λ frame. refl) c.charge_stmt.ensures.sight (c.run_fn_call_expr.ensures.names done)

pub run_stmt-returns-in-Block-clause-names : goal.run_stmt-returns-in-Block-clause-names
unfolding ChangesNames KeepsNames RestoresNames SuitsNames
run_stmt-returns-in-Block-clause-names g t c done =
    stmt_keeps c.args.stmt.now (layer.Block c.in-Block.block) (names c.args.run.now)
    (rw (c.in-Block.is, stmts.outs-Block) refl) (λ frame. refl) c.charge_stmt.ensures.sight (put_back
    (c.run_stmt_block.ensures.restores refl))

pub run_stmt-returns-in-Assignment-clause-names : goal.run_stmt-returns-in-Assignment-clause-names
unfolding ChangesNames KeepsNames RestoresNames SuitsNames
run_stmt-returns-in-Assignment-clause-names g t c done =
    stmt_keeps c.args.stmt.now (layer.Assignment c.in-Assignment.op c.in-Assignment.lhs c.in-Assignment.rhs) (names c.args.run.now)
    (rw (c.in-Assignment.is, stmts.outs-Assignment) refl) (λ frame. refl) c.charge_stmt.ensures.sight (c.run_assignment.ensures.names done)

pub run_stmt-returns-in-If-clause-names : goal.run_stmt-returns-in-If-clause-names
unfolding ChangesNames KeepsNames RestoresNames SuitsNames
run_stmt-returns-in-If-clause-names g t c done =
    stmt_keeps c.args.stmt.now (layer.If c.in-If.test c.in-If.body c.in-If.branch c.in-If.field-3) (names c.args.run.now)
    (rw (c.in-If.is, stmts.outs-If) refl) (λ frame. refl) c.charge_stmt.ensures.sight (c.run_if.ensures.names done)

pub run_stmt-returns-in-While-clause-names : goal.run_stmt-returns-in-While-clause-names
unfolding ChangesNames KeepsNames RestoresNames SuitsNames
run_stmt-returns-in-While-clause-names g t c done =
    stmt_keeps c.args.stmt.now (layer.While c.in-While.test c.in-While.body c.in-While.field-2) (names c.args.run.now)
    (rw (c.in-While.is, stmts.outs-While) refl) (λ frame. refl) c.charge_stmt.ensures.sight (c.run_while.ensures.names done)

pub run_stmt-returns-in-Do-clause-names : goal.run_stmt-returns-in-Do-clause-names
unfolding ChangesNames KeepsNames RestoresNames SuitsNames
run_stmt-returns-in-Do-clause-names g t c done =
    stmt_keeps c.args.stmt.now (layer.Do c.in-Do.test c.in-Do.body c.in-Do.options c.in-Do.field-3) (names c.args.run.now)
    (rw (c.in-Do.is, stmts.outs-Do) refl) (λ frame. refl) c.charge_stmt.ensures.sight (c.run_do.ensures.names done)

pub run_stmt-returns-in-Switch-clause-names : goal.run_stmt-returns-in-Switch-clause-names
unfolding ChangesNames KeepsNames RestoresNames SuitsNames
run_stmt-returns-in-Switch-clause-names g t c done =
    stmt_keeps c.args.stmt.now (layer.Switch c.in-Switch.expr c.in-Switch.expressions c.in-Switch.cases c.in-Switch.ranges
    c.in-Switch.def_case c.in-Switch.pos) (names c.args.run.now)
    (rw (c.in-Switch.is, stmts.outs-Switch) refl) (λ frame. refl) c.charge_stmt.ensures.sight (c.run_switch.ensures.names done)

pub run_stmt-returns-in-For-clause-names : goal.run_stmt-returns-in-For-clause-names
unfolding ChangesNames KeepsNames RestoresNames SuitsNames
run_stmt-returns-in-For-clause-names g t c done =
    stmt_keeps c.args.stmt.now (layer.For c.in-For.name c.in-For.counter c.in-For.expr c.in-For.body c.in-For.pos) (names c.args.run.now)
    (rw (c.in-For.is, stmts.outs-For) refl) (λ frame. refl) c.charge_stmt.ensures.sight (c.run_for.ensures.names done)

pub run_stmt-returns-in-TryCatch-clause-names : goal.run_stmt-returns-in-TryCatch-clause-names
unfolding ChangesNames KeepsNames RestoresNames SuitsNames
run_stmt-returns-in-TryCatch-clause-names g t c done =
    stmt_keeps c.args.stmt.now (layer.TryCatch c.in-TryCatch.body c.in-TryCatch.variable c.in-TryCatch.branch c.in-TryCatch.field-3)
    (names c.args.run.now)
    (rw (c.in-TryCatch.is, stmts.outs-TryCatch) refl) (λ frame. refl) c.charge_stmt.ensures.sight (c.run_try.ensures.names done)

pub run_stmt-returns-in-Share-clause-names : goal.run_stmt-returns-in-Share-clause-names
unfolding ChangesNames KeepsNames RestoresNames SuitsNames
run_stmt-returns-in-Share-clause-names g t c done =
    stmt_keeps c.args.stmt.now (layer.Share c.in-Share.variables) (names c.args.run.now)
    (rw (c.in-Share.is, stmts.outs-Share) refl) (λ frame. refl) c.charge_stmt.ensures.sight
    (stays c.share_variables.ensures.sight c.share_variables.ensures.names)

pub run_stmt-returns-in-Export-clause-names : goal.run_stmt-returns-in-Export-clause-names
unfolding ChangesNames KeepsNames RestoresNames SuitsNames
run_stmt-returns-in-Export-clause-names g t c done =
    stmt_keeps c.args.stmt.now (layer.Export c.in-Export.ident c.in-Export.alias c.in-Export.field-2) (names c.args.run.now)
    (rw (c.in-Export.is, stmts.outs-Export) refl) (λ frame. refl) c.charge_stmt.ensures.sight (stays refl c.export_variable.ensures.names)

pub run_stmt-returns-in-Import-clause-names : goal.run_stmt-returns-in-Import-clause-names
unfolding ChangesNames KeepsNames RestoresNames SuitsNames
run_stmt-returns-in-Import-clause-names g t c done =
    stmt_imports c.args.stmt.now (names c.args.run.now) c.in-Import.path c.in-Import.alias c.in-Import.pos
    (rw (c.in-Import.is, stmts.outs-Import) refl) c.charge_stmt.ensures.sight (c.run_import.ensures.names done)

pub run_statements-run_stmt-requires : goal.run_statements-run_stmt-requires
unfolding ChangesNames KeepsNames RestoresNames SuitsNames
run_statements-run_stmt-requires g t c =
    λ κs lives. (
      omega (arith, c.each_stmt.invariant.counts),
      (
        lives.0,
        (
          lives.1,
          first_suits c.stmt-item.result (drop (c.each_stmt.stmt-index + 1) c.args.statements.now)
              (rw (drop_item _ _ _ c.each_stmt-test.true c.stmt-item.is) at c.each_stmt.invariant.resolves),
        ),
      ),
    )

pub run_stmt-returns-in-Noop-clause-declared : goal.run_stmt-returns-in-Noop-clause-declared
run_stmt-returns-in-Noop-clause-declared g t c done = rw (c.in-Noop.is, stmts.outs-Noop) tt

pub run_stmt-returns-in-FnCall-clause-declared : goal.run_stmt-returns-in-FnCall-clause-declared
run_stmt-returns-in-FnCall-clause-declared g t c done = rw (c.in-FnCall.is, stmts.outs-FnCall) tt

pub run_stmt-returns-in-Block-clause-declared : goal.run_stmt-returns-in-Block-clause-declared
run_stmt-returns-in-Block-clause-declared g t c done = rw (c.in-Block.is, stmts.outs-Block) tt

pub run_stmt-returns-in-Assignment-clause-declared : goal.run_stmt-returns-in-Assignment-clause-declared
run_stmt-returns-in-Assignment-clause-declared g t c done = rw (c.in-Assignment.is, stmts.outs-Assignment) tt

pub run_stmt-returns-in-If-clause-declared : goal.run_stmt-returns-in-If-clause-declared
run_stmt-returns-in-If-clause-declared g t c done = rw (c.in-If.is, stmts.outs-If) tt

pub run_stmt-returns-in-While-clause-declared : goal.run_stmt-returns-in-While-clause-declared
run_stmt-returns-in-While-clause-declared g t c done = rw (c.in-While.is, stmts.outs-While) tt

pub run_stmt-returns-in-Do-clause-declared : goal.run_stmt-returns-in-Do-clause-declared
run_stmt-returns-in-Do-clause-declared g t c done = rw (c.in-Do.is, stmts.outs-Do) tt

pub run_stmt-returns-in-BreakLoop-clause-declared : goal.run_stmt-returns-in-BreakLoop-clause-declared
run_stmt-returns-in-BreakLoop-clause-declared g t c done = rw (c.in-BreakLoop.is, stmts.outs-BreakLoop) tt

pub run_stmt-returns-in-Return-clause-declared : goal.run_stmt-returns-in-Return-clause-declared
run_stmt-returns-in-Return-clause-declared g t c done = rw (c.in-Return.is, stmts.outs-Return) tt

pub run_stmt-returns-in-Switch-clause-declared : goal.run_stmt-returns-in-Switch-clause-declared
run_stmt-returns-in-Switch-clause-declared g t c done = rw (c.in-Switch.is, stmts.outs-Switch) tt

pub run_stmt-returns-in-For-clause-declared : goal.run_stmt-returns-in-For-clause-declared
run_stmt-returns-in-For-clause-declared g t c done = rw (c.in-For.is, stmts.outs-For) tt

pub run_stmt-returns-in-TryCatch-clause-declared : goal.run_stmt-returns-in-TryCatch-clause-declared
run_stmt-returns-in-TryCatch-clause-declared g t c done = rw (c.in-TryCatch.is, stmts.outs-TryCatch) tt

pub run_stmt-returns-in-Share-clause-declared : goal.run_stmt-returns-in-Share-clause-declared
run_stmt-returns-in-Share-clause-declared g t c done = rw (c.in-Share.is, stmts.outs-Share) tt

pub run_stmt-returns-in-Export-clause-declared : goal.run_stmt-returns-in-Export-clause-declared
run_stmt-returns-in-Export-clause-declared g t c done = rw (c.in-Export.is, stmts.outs-Export) tt

pub run_stmt-returns-in-Import-clause-declared : goal.run_stmt-returns-in-Import-clause-declared
run_stmt-returns-in-Import-clause-declared g t c done = rw (c.in-Import.is, stmts.outs-Import) tt

pub run_stmt-returns-else-not-run_expr-clause-declared : goal.run_stmt-returns-else-not-run_expr-clause-declared
run_stmt-returns-else-not-run_expr-clause-declared g t c done = rw (c.in-Expr.is, stmts.outs-Expr) tt

pub run_stmt-returns-in-Var-clause-declared : goal.run_stmt-returns-in-Var-clause-declared
run_stmt-returns-in-Var-clause-declared g t c done = rw (c.in-Var.is, stmts.outs-Var) (c.run_var.ensures.declared done)

pub run_var-returns-clause-declared : goal.run_var-returns-clause-declared
run_var-returns-clause-declared g t c done =
    let rules = under g.H.Host.name_of c.args.self.now g.T.NativeTable.natives in
    c.declare.ensures.names done ∙ ap (var_names c.args.declaration.now.index c.args.declaration.now.ident.now.name)
    (names_stay rules (Eval c.args.value.now) (ended (came true c.run_expr.new.run.value c.run_expr.new.run.error)) _ _ tt tt
    c.if-not-run_expr.ensures.runs)

pub run_assignment-assign_at_once-at_once-requires-clause-resolves_target :
    goal.run_assignment-assign_at_once-at_once-requires-clause-resolves_target
unfolding SuitsNames
run_assignment-assign_at_once-at_once-requires-clause-resolves_target g t c = c.requires.resolves_target

pub run_assignment-assign_at_once-at_once-requires-clause-resolves : goal.run_assignment-assign_at_once-at_once-requires-clause-resolves
unfolding SuitsNames
run_assignment-assign_at_once-at_once-requires-clause-resolves g t c = c.requires.resolves

pub run_import-run_expr-requires : goal.run_import-run_expr-requires
unfolding SuitsNames
run_import-run_expr-requires g t c =
    λ κs lives. (
      omega arith,
      (lives.0, (lives.1, c.requires.resolves)),
    )
