use Rattle.std.proofs.Common.{◌∷◌, refl, arith}
use Rattle.rhai_machine.specs.machine.Point.{after}
use Rattle.rhai_machine.specs.machine.Memory.{here, next, ◌⨾◌}
use Rattle.rhai_machine.specs.language.Frames.{CoalescePart}
use Rattle.rhai_machine.specs.language.Runs.{Goes}
use Rattle.rhai_steps.proofs.Agreeing.{brings, leads_then, stays, still}
use Rattle.rhai_eval_steps.specs.Agreement.{ChangesNames, KeepsNames, RestoresNames, SuitsNames}
use Rattle.rhai_eval_core.specs.States.{under}
use Rattle.rhai_eval_steps.proofs.NameLemmas.{part_resolves}
use Rattle.rhai_eval_steps.proofs.ChoiceSteps.{coalesce_on, coalesce_ends, coalesce_fails, until_on, until_stops, until_fails, until_ends}
use Rattle.rhai_eval_steps.proofs.ChoiceSteps.{until_opens}
use Rattle.rhai_eval_steps.proofs.Chain.{drop_item, drop_all}
use Rattle.rhai_eval_core.proofs.evaluator.Evaluator.+eval.Goals as goal
use Rattle.rhai_context.specs.Ends.{error_in}

pub run_until-run_condition-requires : goal.run_until-run_condition-requires
unfolding ChangesNames KeepsNames RestoresNames SuitsNames
run_until-run_condition-requires g t c =
    λ κs lives. (
      omega arith,
      (
        lives.0,
        (
          lives.1,
          brings (λ frame. part_resolves c.args.parts.now c.each_part.part-index c.part-item.result frame
              c.each_part-test.true c.part-item.is) (still c.each_part.invariant.names c.requires.resolves),
        ),
      ),
    )

pub run_until-each_part-init : goal.run_until-each_part-init
unfolding after Goes ChangesNames KeepsNames RestoresNames SuitsNames
run_until-each_part-init g t c =
    record { counts = omega arith; names = stays refl refl; steps = λ k. here }

pub run_until-each_part-preserved : goal.run_until-each_part-preserved
unfolding after Goes ChangesNames KeepsNames RestoresNames SuitsNames
run_until-each_part-preserved g t c =
    let rules = under g.H.Host.name_of c.args.self.now g.T.NativeTable.natives in
    record {
      counts = omega (arith, c.in-Some.ensures.charges);
      names = leads_then c.each_part.invariant.names c.in-Some.ensures.names;
      steps = λ k. c.each_part.invariant.steps k ⨾ rw (drop_item _ _ _ c.each_part-test.true c.part-item.is)
          (until_on rules c.args.stop _ _ k _ _ _ c.in-Some.ensures.runs (c.is_same.ensures.other c.if-is_same.false));
    }

pub run_until-returns-in_default-clause-runs : goal.run_until-returns-in_default-clause-runs
unfolding after Goes
run_until-returns-in_default-clause-runs g t c pos k =
    let rules = under g.H.Host.name_of c.args.self.now g.T.NativeTable.natives in
    until_opens rules c.args.stop _ pos k _ ⨾ c.each_part.invariant.steps k ⨾ rw (drop_item _ _ _ c.each_part-test.true c.part-item.is)
    (until_fails rules c.args.stop _ _ k _ _ (error_in c.run_condition.new.run.error) c.in_default.ensures.runs)

pub run_until-returns-then-is_same-clause-runs : goal.run_until-returns-then-is_same-clause-runs
unfolding after Goes
run_until-returns-then-is_same-clause-runs g t c pos k =
    let rules = under g.H.Host.name_of c.args.self.now g.T.NativeTable.natives in
    until_opens rules c.args.stop _ pos k _ ⨾ c.each_part.invariant.steps k ⨾ rw (drop_item _ _ _ c.each_part-test.true c.part-item.is)
    (until_stops rules c.args.stop _ _ k _ _ _ c.in-Some.ensures.runs (c.is_same.ensures.same c.if-is_same.true)
    ⨾ rw c.put_truth.ensures here)

pub run_until-returns-clause-runs : goal.run_until-returns-clause-runs
unfolding after Goes
run_until-returns-clause-runs g t c pos k =
    let rules = under g.H.Host.name_of c.args.self.now g.T.NativeTable.natives in
    until_opens rules c.args.stop _ pos k _ ⨾ c.each_part.invariant.steps k
    ⨾ rw (drop_all _ _ c.each_part-test.false, until_ends c.args.stop k _, c.put_truth-2.ensures) here

pub run_coalesce-run_expr-requires : goal.run_coalesce-run_expr-requires
unfolding ChangesNames KeepsNames RestoresNames SuitsNames
run_coalesce-run_expr-requires g t c =
    λ κs lives. (
      omega arith,
      (
        lives.0,
        (
          lives.1,
          brings (λ frame. part_resolves c.args.parts.now c.each_part.part-index c.part-item.result frame
              c.each_part-test.true c.part-item.is) (still c.each_part.invariant.names c.requires.resolves),
        ),
      ),
    )

pub run_coalesce-each_part-init : goal.run_coalesce-each_part-init
unfolding after Goes ChangesNames KeepsNames RestoresNames SuitsNames
run_coalesce-each_part-init g t c =
    record { counts = omega arith; names = stays refl refl; steps = λ k. rw c.put_unit.ensures here }

pub run_coalesce-each_part-preserved : goal.run_coalesce-each_part-preserved
unfolding after Goes ChangesNames KeepsNames RestoresNames SuitsNames
run_coalesce-each_part-preserved g t c =
    let rules = under g.H.Host.name_of c.args.self.now g.T.NativeTable.natives in
    record {
      counts = omega (arith, c.if-not-run_expr.ensures.charges refl);
      names = leads_then c.each_part.invariant.names (c.if-not-run_expr.ensures.names refl);
      steps = λ k. c.each_part.invariant.steps k ⨾ rw (drop_item _ _ _ c.each_part-test.true c.part-item.is)
          (c.if-not-run_expr.ensures.runs (CoalescePart _ _ ∷ k) ⨾ (coalesce_on rules _ _ _ k _ (rw
          c.in-Some-true.field-0-test at c.in-Some-true.ensures tt)));
    }

pub run_coalesce-returns-then-not-run_expr-clause-runs : goal.run_coalesce-returns-then-not-run_expr-clause-runs
unfolding after Goes
run_coalesce-returns-then-not-run_expr-clause-runs g t c pos k =
    next (c.each_part.invariant.steps k ⨾ rw (drop_item _ _ _ c.each_part-test.true c.part-item.is) (c.if-not-run_expr.ensures.runs
    (CoalescePart _ _ ∷ k) ⨾ next here))

pub run_coalesce-returns-in-None-clause-runs : goal.run_coalesce-returns-in-None-clause-runs
unfolding after Goes
run_coalesce-returns-in-None-clause-runs g t c pos k =
    let rules = under g.H.Host.name_of c.args.self.now g.T.NativeTable.natives in
    next (c.each_part.invariant.steps k ⨾ rw (drop_item _ _ _ c.each_part-test.true c.part-item.is) (c.if-not-run_expr.ensures.runs
    (CoalescePart _ _ ∷ k) ⨾ (coalesce_fails rules _ _ _ k _ _ c.in-None.ensures)))

pub run_coalesce-returns-in-Some-false-clause-runs : goal.run_coalesce-returns-in-Some-false-clause-runs
unfolding after Goes
run_coalesce-returns-in-Some-false-clause-runs g t c pos k =
    let rules = under g.H.Host.name_of c.args.self.now g.T.NativeTable.natives in
    next (c.each_part.invariant.steps k ⨾ rw (drop_item _ _ _ c.each_part-test.true c.part-item.is)
    (c.if-not-run_expr.ensures.runs (CoalescePart _ _ ∷ k) ⨾ (coalesce_ends rules _ _ _ k _ (rw
    c.in-Some-false.field-0-test at c.in-Some-false.ensures tt))))

pub run_coalesce-returns-clause-runs : goal.run_coalesce-returns-clause-runs
unfolding after Goes
run_coalesce-returns-clause-runs g t c pos k = next (c.each_part.invariant.steps k ⨾ rw (drop_all _ _ c.each_part-test.false) here)

pub run_until-returns-then-is_same-clause-names : goal.run_until-returns-then-is_same-clause-names
unfolding ChangesNames KeepsNames RestoresNames SuitsNames
run_until-returns-then-is_same-clause-names g t c done = leads_then c.each_part.invariant.names c.in-Some.ensures.names

pub run_coalesce-returns-in-Some-false-clause-names : goal.run_coalesce-returns-in-Some-false-clause-names
unfolding ChangesNames KeepsNames RestoresNames SuitsNames
run_coalesce-returns-in-Some-false-clause-names g t c done = leads_then c.each_part.invariant.names (c.if-not-run_expr.ensures.names refl)

pub run_until-returns-clause-names : goal.run_until-returns-clause-names
unfolding KeepsNames
run_until-returns-clause-names g t c done = c.each_part.invariant.names
