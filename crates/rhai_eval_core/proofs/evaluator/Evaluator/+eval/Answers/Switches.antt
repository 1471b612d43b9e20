use Rattle.std.proofs.Common.{◌≡◌, ◌≤◌, ◌∷◌, ◌∙◌, List, None, Option, Some, arith, refl, sym}
use Rattle.rhai_machine.specs.machine.Point.{after}
use Rattle.rhai_machine.specs.machine.Memory.{here, next, ◌⨾◌, Leads}
use Rattle.rhai_stmt.specs.Candidates.{numbers_left}
use Rattle.rhai_machine.specs.language.Cases.{Cases, default_of, results_of}
use Rattle.rhai_machine.specs.language.Choices.{met_core}
use Rattle.rhai_machine.specs.language.Frames.{Choose, Frame, SwitchValue}
use Rattle.rhai_machine.specs.language.Runs.{at, with_core, Goes}
use Rattle.rhai_machine.specs.language.Language.{machine}
use Rattle.rhai_machine.specs.language.Setting.{cut}
use Rattle.rhai_steps.proofs.Agreeing.{brings, leads_then, still}
use Rattle.rhai_eval_steps.specs.Agreement.{ChangesNames, KeepsNames, RestoresNames, SuitsNames}
use Rattle.rhai_eval_steps.specs.States.{state_in}
use Rattle.rhai_eval_core.specs.States.{under}
use Rattle.rhai_eval_steps.proofs.CandidateLemmas.{candidate_runs, default_runs}
use Rattle.rhai_eval_steps.proofs.SwitchSteps.{default_not, default_on, tested_not, tested_on, value_on, written_on}
use Rattle.rhai_eval_core.proofs.evaluator.Evaluator.+eval.Goals as goal
use Rattle.rhai_eval_core.proofs.evaluator.Evaluator.+eval.Goals.{run_switch-in-Some-written_truth}
use Rattle.rhai_eval_core.proofs.evaluator.Evaluator.+eval.Goals.{run_switch-in-None+in-Some-run_condition}
use Rattle.rhai_eval_steps.proofs.Chain.{flat_fails}

is_none : {A : Type 0} (o : Option A) → ((x : A) → o ≡ Some x → ⊥) → o ≡ None
is_none None not = refl
is_none (Some x) not = absurd (not x refl)

pub run_switch-returns-then-not-run_expr-clause-runs : goal.run_switch-returns-then-not-run_expr-clause-runs
unfolding after Goes
run_switch-returns-then-not-run_expr-clause-runs g t c pos restoring k =
    let choice : Cases =
    record { results = c.args.results.now; cases = c.args.cases.now; ranges = c.args.ranges.now; default = c.args.default } in
    next (c.if-not-run_expr.ensures.runs (SwitchValue _ choice ∷ k) ⨾ next here)

pub run_switch-returns-then-not-flatten_at-clause-runs : goal.run_switch-returns-then-not-flatten_at-clause-runs
unfolding after Goes
run_switch-returns-then-not-flatten_at-clause-runs g t c pos restoring k =
    let rules = under g.H.Host.name_of c.args.self.now g.T.NativeTable.natives in
    let choice : Cases =
    record { results = c.args.results.now; cases = c.args.cases.now; ranges = c.args.ranges.now; default = c.args.default } in
    next (c.if-not-run_expr.ensures.runs (SwitchValue _ choice ∷ k)
    ⨾ flat_fails rules _ _ k _ _ (SwitchValue _ choice) refl c.if-not-flatten_at.ensures.exact)

pub run_switch-run_condition-requires : goal.run_switch-run_condition-requires
unfolding ChangesNames KeepsNames RestoresNames SuitsNames
run_switch-run_condition-requires g t c =
    λ κs lives. (
      omega (arith, c.each_candidate.invariant.counts),
      (
        lives.0,
        (
          lives.1,
          brings (λ frame h. (candidate_runs frame c.args.results.now h _ c.in-Some.candidate.now _ c.in-Some.ensures.some).0)
              (still c.each_candidate.invariant.names c.requires.resolves_results),
        ),
      ),
    )

pub run_switch-each_candidate-init : goal.run_switch-each_candidate-init
unfolding after Goes ChangesNames KeepsNames RestoresNames SuitsNames
run_switch-each_candidate-init g t c =
    let rules = under g.H.Host.name_of c.args.self.now g.T.NativeTable.natives in
    let choice : Cases =
    record { results = c.args.results.now; cases = c.args.cases.now; ranges = c.args.ranges.now; default = c.args.default } in
    record {
      counts = omega (arith, c.if-not-run_expr.ensures.charges refl);
      names = c.if-not-run_expr.ensures.names refl;
      steps = λ pos restoring k. rw (c.candidates_for-left.ensures c.args.results.now c.args.default)
          (next (c.if-not-run_expr.ensures.runs (SwitchValue _ choice ∷ k)
          ⨾ value_on rules k choice _ _ c.flatten_at.new.out _ (c.if-not-flatten_at.ensures.exact tt)));
    }

pub run_switch-returns-in-None-default_result-clause-runs : goal.run_switch-returns-in-None-default_result-clause-runs
unfolding after Goes
run_switch-returns-in-None-default_result-clause-runs g t c pos restoring k =
    let rules = under g.H.Host.name_of c.args.self.now g.T.NativeTable.natives in
    c.each_candidate.invariant.steps pos restoring k ⨾ rw (
      c.next.ensures.none (is_none c.next.result c.in_default.not-Some),
      c.put_unit-in-None-default_result.ensures,
    )
    (default_not rules k _ _ (sym (c.in-None-default_result.ensures c.args.cases.now c.args.ranges.now)))

pub run_switch-returns-in-None-run_condition-clause-runs : goal.run_switch-returns-in-None-run_condition-clause-runs
unfolding after Goes
run_switch-returns-in-None-run_condition-clause-runs g t c pos restoring k =
    let rules = under g.H.Host.name_of c.args.self.now g.T.NativeTable.natives in
    c.each_candidate.invariant.steps pos restoring k ⨾ rw c.in-Some.ensures.some
    (tested_not rules k c.in-Some.candidate.now _ _ _ _ _ (sym c.written_truth.ensures ∙ c.in-None.is) c.in-None-run_condition.ensures.runs)

pub run_switch-run_expr-requires-in-Some-default_result : goal.run_switch-run_expr-requires-in-Some-default_result
unfolding ChangesNames KeepsNames RestoresNames SuitsNames
run_switch-run_expr-requires-in-Some-default_result g t c =
    λ κs lives. (
      omega (arith, c.each_candidate.invariant.counts),
      (
        lives.0,
        (
          lives.1,
          brings (λ frame h. default_runs frame c.args.results.now h c.args.default _
              (sym (c.in-Some-default_result.ensures c.args.cases.now c.args.ranges.now)))
              (still c.each_candidate.invariant.names c.requires.resolves_results),
        ),
      ),
    )

pub run_switch-returns-in-Some-default_result-clause-runs : goal.run_switch-returns-in-Some-default_result-clause-runs
unfolding after Goes
run_switch-returns-in-Some-default_result-clause-runs g t c pos restoring k =
    let rules = under g.H.Host.name_of c.args.self.now g.T.NativeTable.natives in
    c.each_candidate.invariant.steps pos restoring k ⨾ rw (c.next.ensures.none (is_none c.next.result c.in_default.not-Some))
    (default_on rules k _ _ _ (sym (c.in-Some-default_result.ensures c.args.cases.now c.args.ranges.now))
    ⨾ c.run_expr-in-Some-default_result.ensures.runs k)

pub run_switch-run_expr-requires-then-holds : goal.run_switch-run_expr-requires-then-holds
unfolding ChangesNames KeepsNames RestoresNames SuitsNames
run_switch-run_expr-requires-then-holds g t c =
    let kept : KeepsNames c.args.run.now c.match-written_truth.run = elim c.match-written_truth.branch [
      | run_switch-in-Some-written_truth w ↦ rw w.run-is c.each_candidate.invariant.names
      | run_switch-in-None+in-Some-run_condition w ↦ rw w.run-is
          (leads_then c.each_candidate.invariant.names w.in-Some-run_condition.ensures.names)
    ] in
    let counts : c.args.run.now.global.num_operations ≤ c.match-written_truth.run.global.num_operations =
    elim c.match-written_truth.branch [
      | run_switch-in-Some-written_truth w ↦ rw w.run-is c.each_candidate.invariant.counts
      | run_switch-in-None+in-Some-run_condition w ↦ rw w.run-is (omega (
        arith,
        c.each_candidate.invariant.counts,
        w.in-Some-run_condition.ensures.charges,
      ))
    ] in
    λ κs lives. (
      omega (arith, counts),
      (
        lives.0,
        (
          lives.1,
          brings (λ frame h. (candidate_runs frame c.args.results.now h _ c.in-Some.candidate.now _ c.in-Some.ensures.some).1)
              (still kept c.requires.resolves_results),
        ),
      ),
    )

pub run_switch-returns-then-holds-clause-runs : goal.run_switch-returns-then-holds-clause-runs
unfolding after Goes
run_switch-returns-then-holds-clause-runs g t c pos restoring k =
    let rules = under g.H.Host.name_of c.args.self.now g.T.NativeTable.natives in
    let candidate = c.in-Some.candidate.now in
    let rest = results_of c.args.results.now (numbers_left c.next.new.self) in
    let default = default_of (record {
      results = c.args.results.now;
      cases = c.args.cases.now;
      ranges = c.args.ranges.now;
      default = c.args.default;
    }) in
    let old = state_in (g.T.NativeTable.state c.each_candidate.table) c.each_candidate.run in
    let new = state_in (g.T.NativeTable.state c.match-written_truth.table) c.match-written_truth.run in
    let told : (k : List (Frame g.row.H.Denot)) → Leads (machine rules) (cut rules) (at (Choose (candidate ∷ rest) default) k old)
    (with_core (met_core c.match-written_truth.holds candidate rest default k new.local) new) = λ k. elim c.match-written_truth.branch [
      | run_switch-in-Some-written_truth w ↦ rw (w.holds-is, w.table-is, w.run-is) (written_on rules k candidate rest default
          w.in-Some-written_truth.holds old (sym c.written_truth.ensures ∙ w.in-Some-written_truth.is))
      | run_switch-in-None+in-Some-run_condition w ↦ rw (w.holds-is, w.table-is, w.run-is)
          (tested_on rules k candidate rest default w.in-Some-run_condition.holds old _
          (sym c.written_truth.ensures ∙ w.in-None.is) w.in-Some-run_condition.ensures.runs)
    ] in
    c.each_candidate.invariant.steps pos restoring k ⨾ rw c.in-Some.ensures.some
    ((rw c.if-holds.true at told) k ⨾ c.run_expr-then-holds.ensures.runs k)

pub run_switch-each_candidate-preserved : goal.run_switch-each_candidate-preserved
unfolding after Goes ChangesNames KeepsNames RestoresNames SuitsNames
run_switch-each_candidate-preserved g t c =
    let rules = under g.H.Host.name_of c.args.self.now g.T.NativeTable.natives in
    let candidate = c.in-Some.candidate.now in
    let rest = results_of c.args.results.now (numbers_left c.next.new.self) in
    let default = default_of (record {
      results = c.args.results.now;
      cases = c.args.cases.now;
      ranges = c.args.ranges.now;
      default = c.args.default;
    }) in
    let old = state_in (g.T.NativeTable.state c.each_candidate.table) c.each_candidate.run in
    let new = state_in (g.T.NativeTable.state c.match-written_truth.table) c.match-written_truth.run in
    let told : (k : List (Frame g.row.H.Denot)) → Leads (machine rules) (cut rules) (at (Choose (candidate ∷ rest) default) k old)
    (with_core (met_core c.match-written_truth.holds candidate rest default k new.local) new) = λ k. elim c.match-written_truth.branch [
      | run_switch-in-Some-written_truth w ↦ rw (w.holds-is, w.table-is, w.run-is) (written_on rules k candidate rest default
          w.in-Some-written_truth.holds old (sym c.written_truth.ensures ∙ w.in-Some-written_truth.is))
      | run_switch-in-None+in-Some-run_condition w ↦ rw (w.holds-is, w.table-is, w.run-is)
          (tested_on rules k candidate rest default w.in-Some-run_condition.holds old _
          (sym c.written_truth.ensures ∙ w.in-None.is) w.in-Some-run_condition.ensures.runs)
    ] in
    let kept : KeepsNames c.args.run.now c.match-written_truth.run = elim c.match-written_truth.branch [
      | run_switch-in-Some-written_truth w ↦ rw w.run-is c.each_candidate.invariant.names
      | run_switch-in-None+in-Some-run_condition w ↦ rw w.run-is
          (leads_then c.each_candidate.invariant.names w.in-Some-run_condition.ensures.names)
    ] in
    let counts : c.args.run.now.global.num_operations ≤ c.match-written_truth.run.global.num_operations =
    elim c.match-written_truth.branch [
      | run_switch-in-Some-written_truth w ↦ rw w.run-is c.each_candidate.invariant.counts
      | run_switch-in-None+in-Some-run_condition w ↦ rw w.run-is (omega (
        arith,
        c.each_candidate.invariant.counts,
        w.in-Some-run_condition.ensures.charges,
      ))
    ] in
    record {
      counts = counts;
      names = kept;
      steps = λ pos restoring k.
          c.each_candidate.invariant.steps pos restoring k ⨾ rw c.in-Some.ensures.some ((rw c.if-holds.false at told) k);
    }

pub run_switch-returns-in-Some-default_result-clause-names : goal.run_switch-returns-in-Some-default_result-clause-names
unfolding ChangesNames KeepsNames RestoresNames SuitsNames
run_switch-returns-in-Some-default_result-clause-names g t c done =
    leads_then c.each_candidate.invariant.names (c.run_expr-in-Some-default_result.ensures.names done)

pub run_switch-returns-then-holds-clause-names : goal.run_switch-returns-then-holds-clause-names
unfolding ChangesNames KeepsNames RestoresNames SuitsNames
run_switch-returns-then-holds-clause-names g t c done =
    let kept : KeepsNames c.args.run.now c.match-written_truth.run = elim c.match-written_truth.branch [
      | run_switch-in-Some-written_truth w ↦ rw w.run-is c.each_candidate.invariant.names
      | run_switch-in-None+in-Some-run_condition w ↦ rw w.run-is
          (leads_then c.each_candidate.invariant.names w.in-Some-run_condition.ensures.names)
    ] in
    leads_then kept (c.run_expr-then-holds.ensures.names done)

pub run_switch-returns-in-None-default_result-clause-names : goal.run_switch-returns-in-None-default_result-clause-names
unfolding KeepsNames
run_switch-returns-in-None-default_result-clause-names g t c done = c.each_candidate.invariant.names
