use Rattle.std.proofs.Common.{◌∷◌, ◌∙◌, arith, refl, sym, true}
use Rattle.rhai_tree.specs.declared.expr.Expr.{out-Expr}
use Rattle.rhai_tree.specs.Forms.{catch_of}
use Rattle.rhai_state.specs.Scope.{entries_of, name_of}
use Rattle.rhai_machine.specs.machine.Point.{after}
use Rattle.rhai_machine.specs.machine.Memory.{next, ◌⨾◌}
use Rattle.rhai_machine.specs.language.Frames.{CatchBranch, Enter, ended, TryBody}
use Rattle.rhai_machine.specs.language.Runs.{Goes}
use Rattle.rhai_machine.specs.language.Tries.{catch_variable}
use Rattle.rhai_laws.proofs.KeptLaws.{counted, names_stay}
use Rattle.rhai_steps.specs.States.{holding}
use Rattle.rhai_context.specs.Ends.{came}
use Rattle.rhai_steps.proofs.Agreeing.{leads_then, put_back, stays, still}
use Rattle.rhai_eval_steps.specs.Agreement.{ChangesNames, KeepsNames, RestoresNames, SuitsNames, sight_in}
use Rattle.rhai_eval_core.specs.States.{under}
use Rattle.rhai_eval_steps.proofs.NameLemmas.{names_restored}
use Rattle.rhai_eval_steps.proofs.FormNames.{block_suits, branch_begins, branch_suits, catches, nothing_bound}
use Rattle.rhai_eval_steps.proofs.TrySteps.{below, branch_left, branch_not, branch_on, scope_back, try_catches, try_done, try_passes}
use Rattle.rhai_eval_core.proofs.evaluator.Evaluator.+eval.Goals as goal

pub run_try-returns-then-run_stmt_block-clause-runs : goal.run_try-returns-then-run_stmt_block-clause-runs
unfolding after Goes
run_try-returns-then-run_stmt_block-clause-runs g t c pos restoring k =
    let rules = under g.H.Host.name_of c.args.self.now g.T.NativeTable.natives in
    next ((rw c.as_slice.ensures at c.if-run_stmt_block.ensures.runs) (TryBody c.args.variable.now c.args.branch.now ∷ k)
    ⨾ try_done rules k _ _ _ _)

pub run_try-returns-then-not-may_catch-clause-runs : goal.run_try-returns-then-not-may_catch-clause-runs
unfolding after Goes
run_try-returns-then-not-may_catch-clause-runs g t c pos restoring k =
    let rules = under g.H.Host.name_of c.args.self.now g.T.NativeTable.natives in
    next ((rw c.as_slice.ensures at c.if-run_stmt_block.ensures.runs) (TryBody c.args.variable.now c.args.branch.now ∷ k)
    ⨾ try_passes rules k _ _ _ _ (sym c.may_catch.ensures ∙ c.if-not-may_catch.true))

pub run_try-run_branch-requires : goal.run_try-run_branch-requires
unfolding ChangesNames KeepsNames RestoresNames SuitsNames
run_try-run_branch-requires g t c =
    let rules = under g.H.Host.name_of c.args.self.now g.T.NativeTable.natives in
    let counts = counted rules _ _ _ _ c.if-run_stmt_block.ensures.runs in
    let stay = put_back (c.if-run_stmt_block.ensures.restores refl) in
    λ κs lives. (
      omega (arith, counts),
      (lives.0, (lives.1, catches (catch_of c.args.variable.now) (λ name. still stay) c.requires.resolves_branch)),
    )

pub run_try-returns-clause-counts : goal.run_try-returns-clause-counts
run_try-returns-clause-counts g t c done =
    let rules = under g.H.Host.name_of c.args.self.now g.T.NativeTable.natives in
    omega (arith, counted rules _ _ _ _ c.if-run_stmt_block.ensures.runs, c.run_branch.ensures.counts done)

pub run_try-returns-clause-names : goal.run_try-returns-clause-names
unfolding ChangesNames KeepsNames RestoresNames SuitsNames
run_try-returns-clause-names g t c done =
    leads_then (put_back (c.if-run_stmt_block.ensures.restores refl)) (c.run_branch.ensures.names done)

pub run_try-returns-clause-runs : goal.run_try-returns-clause-runs
unfolding after Goes
run_try-returns-clause-runs g t c pos restoring k =
    let rules = under g.H.Host.name_of c.args.self.now g.T.NativeTable.natives in
    next ((rw c.as_slice.ensures at c.if-run_stmt_block.ensures.runs) (TryBody c.args.variable.now c.args.branch.now ∷ k)
    ⨾ try_catches rules k _ _ _ _ (sym c.may_catch.ensures ∙ c.if-not-may_catch.false)
    ⨾ (rw c.stopped-caught.ensures at c.run_branch.ensures.runs) k)

pub run_branch-returns-then-not-bind_caught-clause-runs : goal.run_branch-returns-then-not-bind_caught-clause-runs
unfolding after Goes
run_branch-returns-then-not-bind_caught-clause-runs g t c k =
    let rules = under g.H.Host.name_of c.args.self.now g.T.NativeTable.natives in
    rw (c.if-not-bind_caught.ensures.same refl)
    (branch_not rules k c.args.caught c.args.branch.now _ _ _ c.if-not-bind_caught.ensures.exact)

pub run_branch-run_stmt_block-done-requires : goal.run_branch-run_stmt_block-done-requires
unfolding ChangesNames KeepsNames RestoresNames SuitsNames
run_branch-run_stmt_block-done-requires g t c =
    let suits = branch_suits c.args.branch.now c.args.run.now.global.source c.args.caught (sight_in c.args.run.now)
    c.args.variable.now (entries_of c.args.run.now.scope) _ c.requires.resolves (c.if-not-bind_caught.ensures.bound refl) in
    λ κs lives. (omega arith, (lives.0, (lives.1, rw c.as_slice-statements.ensures (block_suits c.args.branch.now suits))))

pub run_branch-returns-clause-runs : goal.run_branch-returns-clause-runs
unfolding after Goes
run_branch-returns-clause-runs g t c k =
    let rules = under g.H.Host.name_of c.args.self.now g.T.NativeTable.natives in
    let old = c.args.run.now in
    let new = c.run_stmt_block-done.new.run in
    let variable = catch_variable (out-Expr c.args.variable.now) in
    let block = rw c.as_slice-statements.ensures at c.run_stmt_block-done.ensures.runs in
    let stay = names_stay rules (Enter c.args.branch.now.statements true) (ended (came c.run_stmt_block-done.result
    c.run_stmt_block-done.new.run.value c.run_stmt_block-done.new.run.error)) _ _ tt tt block in
    branch_on rules k c.args.caught c.args.branch.now _ old.global old.scope c.bind_caught.new.scope (holding old.this)
    c.len-base.result c.len-base.ensures variable (c.if-not-bind_caught.ensures.exact tt) (c.if-not-bind_caught.ensures.bound refl)
    ⨾ block (CatchBranch c.args.caught ∷ below rules k variable c.len-base.result)
    ⨾ branch_left rules (below rules k variable c.len-base.result) c.args.caught (came c.run_stmt_block-done.result
    c.run_stmt_block-done.new.run.value c.run_stmt_block-done.new.run.error) _
    ⨾ rw c.leave_branch.ensures.left
    (scope_back rules k variable _ c.len-base.result _ new.global new.scope c.leave_branch.new.scope (holding new.this)
    (nothing_bound variable old.global.source c.args.caught (entries_of old.scope) _ _ (c.if-not-bind_caught.ensures.bound refl) stay
    c.len-base.result c.len-base.ensures) c.leave_branch.ensures.scope)

pub run_branch-returns-clause-counts : goal.run_branch-returns-clause-counts
run_branch-returns-clause-counts g t c done =
    let rules = under g.H.Host.name_of c.args.self.now g.T.NativeTable.natives in
    omega (arith, counted rules _ _ _ _ c.run_stmt_block-done.ensures.runs)

pub run_branch-returns-clause-names : goal.run_branch-returns-clause-names
unfolding ChangesNames KeepsNames RestoresNames SuitsNames
run_branch-returns-clause-names g t c done =
    let old = c.args.run.now in
    let back = c.run_stmt_block-done.ensures.restores refl in
    stays back.sight (names_restored old.scope.entries c.run_stmt_block-done.new.run.scope.entries c.leave_branch.new.scope.entries
    c.len-base.result c.leave_branch.ensures.scope c.len-base.ensures
    (branch_begins (catch_variable (out-Expr c.args.variable.now)) old.global.source c.args.caught (entries_of old.scope) _ _
    (c.if-not-bind_caught.ensures.bound refl) back.names))

pub run_try-run_stmt_block-requires : goal.run_try-run_stmt_block-requires
unfolding ChangesNames KeepsNames RestoresNames SuitsNames
run_try-run_stmt_block-requires g t c =
    λ κs lives. (
      omega arith,
      (lives.0, (lives.1, rw c.as_slice.ensures (block_suits c.args.body.now c.requires.resolves_body))),
    )

pub run_try-returns-then-run_stmt_block-clause-names : goal.run_try-returns-then-run_stmt_block-clause-names
unfolding ChangesNames KeepsNames RestoresNames SuitsNames
run_try-returns-then-run_stmt_block-clause-names g t c done = put_back (c.if-run_stmt_block.ensures.restores refl)
