use Rattle.std.proofs.Common.{◌∷◌, refl}
use Rattle.rhai_machine.specs.machine.Point.{after}
use Rattle.rhai_machine.specs.machine.Memory.{here, next, ◌⨾◌}
use Rattle.rhai_machine.specs.language.Frames.{BreakValue}
use Rattle.rhai_machine.specs.language.Runs.{Goes}
use Rattle.rhai_machine.specs.language.Statements.{has_option}
use Rattle.rhai_steps.proofs.Pieces.{faulted}
use Rattle.rhai_eval_core.specs.States.{under}
use Rattle.rhai_eval_steps.proofs.LoopSteps.{breaks_unit, breaks_value, leaves, leaving, leaving_flattens, leaving_passes, returns_unit}
use Rattle.rhai_eval_steps.proofs.LoopSteps.{returns_value}
use Rattle.rhai_eval_steps.proofs.Chain.{flat_fails}
use Rattle.rhai_eval_core.proofs.evaluator.Evaluator.+eval.Goals as goal

pub run_break-returns-in-None-clause-runs : goal.run_break-returns-in-None-clause-runs
unfolding Goes
run_break-returns-in-None-clause-runs g t c restoring k =
    let rules = under g.H.Host.name_of c.args.self.now g.T.NativeTable.natives in
    rw c.in-None.is (breaks_unit rules c.args.options _ _ _ c.args.pos restoring k _ refl c.put_unit.ensures c.break_with.ensures.told)

pub run_break-returns-then-not-run_expr-clause-runs : goal.run_break-returns-then-not-run_expr-clause-runs
unfolding after Goes
run_break-returns-then-not-run_expr-clause-runs g t c restoring k =
    let rules = under g.H.Host.name_of c.args.self.now g.T.NativeTable.natives in
    rw c.in-Some.is (breaks_value rules _ _ _ restoring k _
    ⨾ c.if-not-run_expr.ensures.runs (BreakValue _ _ ∷ k) ⨾ next here)

pub run_break-returns-else-not-run_expr-clause-runs : goal.run_break-returns-else-not-run_expr-clause-runs
unfolding after Goes
run_break-returns-else-not-run_expr-clause-runs g t c restoring k =
    let rules = under g.H.Host.name_of c.args.self.now g.T.NativeTable.natives in
    rw c.in-Some.is (breaks_value rules _ _ _ restoring k _
    ⨾ c.if-not-run_expr.ensures.runs (BreakValue _ _ ∷ k)
    ⨾ next (faulted rules _ _ c.break_with-in-Some.ensures.told k _))

pub run_return-returns-in-None-clause-runs : goal.run_return-returns-in-None-clause-runs
unfolding after Goes
run_return-returns-in-None-clause-runs g t c restoring k =
    let rules = under g.H.Host.name_of c.args.self.now g.T.NativeTable.natives in
    rw c.in-None.is (returns_unit rules _ _ restoring k _
    ⨾ rw (← c.put_unit.ensures) (faulted rules _ _ c.leave_with.ensures.told k _))

pub run_return-returns-then-not-run_expr-clause-runs : goal.run_return-returns-then-not-run_expr-clause-runs
unfolding after Goes
run_return-returns-then-not-run_expr-clause-runs g t c restoring k =
    let rules = under g.H.Host.name_of c.args.self.now g.T.NativeTable.natives in
    rw c.in-Some.is (returns_value rules _ _ _ restoring k _
    ⨾ c.if-not-run_expr.ensures.runs (leaving rules (has_option 2 c.args.options) _ _ ∷ k)
    ⨾ leaving_passes rules (has_option 2 c.args.options) _ _ _ k _)

pub run_return-returns-then-not-flatten_at-clause-runs : goal.run_return-returns-then-not-flatten_at-clause-runs
unfolding after Goes
run_return-returns-then-not-flatten_at-clause-runs g t c restoring k =
    let rules = under g.H.Host.name_of c.args.self.now g.T.NativeTable.natives in
    rw c.in-Some.is (returns_value rules _ _ _ restoring k _
    ⨾ c.if-not-run_expr.ensures.runs (leaving rules (has_option 2 c.args.options) _ _ ∷ k)
    ⨾ flat_fails rules _ _ k _ _ _ (leaving_flattens rules (has_option 2 c.args.options) _ _)
    c.if-not-flatten_at.ensures.exact)

pub run_return-returns-else-not-flatten_at-clause-runs : goal.run_return-returns-else-not-flatten_at-clause-runs
unfolding after Goes
run_return-returns-else-not-flatten_at-clause-runs g t c restoring k =
    let rules = under g.H.Host.name_of c.args.self.now g.T.NativeTable.natives in
    rw c.in-Some.is (returns_value rules _ _ _ restoring k _
    ⨾ c.if-not-run_expr.ensures.runs (leaving rules (has_option 2 c.args.options) _ _ ∷ k)
    ⨾ leaves rules (has_option 2 c.args.options) _ _ _ _ k _ (c.if-not-flatten_at.ensures.exact tt)
    ⨾ faulted rules _ _ c.leave_with-in-Some.ensures.told k _)
