use Rattle.std.proofs.Common.{◌∷◌, map, refl, arith}
use Rattle.rhai_steps.specs.States.{holding}
use Rattle.rhai_tree.specs.Keys.{key_of}
use Rattle.rhai_machine.specs.machine.Point.{after}
use Rattle.rhai_machine.specs.machine.Memory.{here, next, ◌⨾◌}
use Rattle.rhai_machine.specs.language.Frames.{ArrayItem, EntryValue, TextPart}
use Rattle.rhai_machine.specs.language.Runs.{Goes}
use Rattle.rhai_steps.proofs.Agreeing.{brings, leads_then, stays, still}
use Rattle.rhai_steps.proofs.Pieces.{told}
use Rattle.rhai_context.specs.Ends.{error_in}
use Rattle.rhai_eval_steps.specs.Agreement.{ChangesNames, KeepsNames, RestoresNames, SuitsNames}
use Rattle.rhai_eval_core.specs.States.{under}
use Rattle.rhai_eval_steps.proofs.NameLemmas.{part_resolves, value_resolves}
use Rattle.rhai_eval_steps.proofs.DataSteps.{item_on, item_fails, value_on, value_fails}
use Rattle.rhai_eval_steps.proofs.Chain.{drop_item, drop_all}
use Rattle.rhai_eval_core.proofs.evaluator.Evaluator.+eval.Goals as goal

pub run_array-run_expr-requires : goal.run_array-run_expr-requires
unfolding ChangesNames KeepsNames RestoresNames SuitsNames
run_array-run_expr-requires g t c =
    λ κs lives. (
      omega arith,
      (
        lives.0,
        (
          lives.1,
          brings (λ frame. part_resolves c.args.items.now c.each_item.item-index c.item-item.result frame
              c.each_item-test.true c.item-item.is) (still c.each_item.invariant.names c.requires.resolves),
        ),
      ),
    )

pub run_array-each_item-init : goal.run_array-each_item-init
unfolding after Goes ChangesNames KeepsNames RestoresNames SuitsNames
run_array-each_item-init g t c =
    record {
      counts = omega arith;
      names = stays refl refl;
      measured = c.new-made.ensures.measured;
      steps = λ k. rw c.new-made.ensures.items here;
    }

pub run_array-each_item-preserved : goal.run_array-each_item-preserved
unfolding after Goes ChangesNames KeepsNames RestoresNames SuitsNames
run_array-each_item-preserved g t c =
    let rules = under g.H.Host.name_of c.args.self.now g.T.NativeTable.natives in
    record {
      counts = omega (arith, c.each_item.invariant.counts, c.if-not-run_expr.ensures.charges refl);
      names = leads_then c.each_item.invariant.names (c.if-not-run_expr.ensures.names refl);
      measured = c.if-not-add.ensures.measured;
      steps = λ k. c.each_item.invariant.steps k ⨾ rw (drop_item _ _ _ c.each_item-test.true c.item-item.is)
          (c.if-not-run_expr.ensures.runs (ArrayItem _ _ _ ∷ k) ⨾ item_on rules c.each_item.made.items
          c.run_expr.new.run.value _ _ k _ c.add.new.self.items (c.if-not-add.ensures.added refl));
    }

pub run_array-returns-then-not-add-clause-runs : goal.run_array-returns-then-not-add-clause-runs
unfolding after Goes
run_array-returns-then-not-add-clause-runs g t c k =
    let rules = under g.H.Host.name_of c.args.self.now g.T.NativeTable.natives in
    next (c.each_item.invariant.steps k ⨾ rw (drop_item _ _ _ c.each_item-test.true c.item-item.is)
    (c.if-not-run_expr.ensures.runs (ArrayItem _ _ _ ∷ k) ⨾ item_fails rules c.each_item.made.items
    c.run_expr.new.run.value _ _ k _ (error_in c.add.new.place) (c.if-not-add.ensures.refused refl)))

pub run_array-returns-then-not-run_expr-clause-runs : goal.run_array-returns-then-not-run_expr-clause-runs
unfolding after Goes
run_array-returns-then-not-run_expr-clause-runs g t c k =
    next (c.each_item.invariant.steps k ⨾ rw (drop_item _ _ _ c.each_item-test.true c.item-item.is)
    (c.if-not-run_expr.ensures.runs (ArrayItem _ _ _ ∷ k) ⨾ next here))

pub run_array-returns-clause-runs : goal.run_array-returns-clause-runs
unfolding after Goes
run_array-returns-clause-runs g t c k =
    let rules = under g.H.Host.name_of c.args.self.now g.T.NativeTable.natives in
    next (c.each_item.invariant.steps k ⨾ rw (drop_all _ _ c.each_item-test.false) (told rules _ _ c.finish.ensures k _))

pub run_map-run_expr-requires : goal.run_map-run_expr-requires
unfolding ChangesNames KeepsNames RestoresNames SuitsNames
run_map-run_expr-requires g t c =
    λ κs lives. (
      omega arith,
      (
        lives.0,
        (
          lives.1,
          brings (λ frame. value_resolves c.args.entries.now c.each_entry.entry-index c.entry-item.result frame
              c.each_entry-test.true c.entry-item.is) (still c.each_entry.invariant.names c.requires.resolves),
        ),
      ),
    )

pub run_map-each_entry-init : goal.run_map-each_entry-init
unfolding after Goes ChangesNames KeepsNames RestoresNames SuitsNames
run_map-each_entry-init g t c =
    record {
      counts = omega arith;
      names = stays refl refl;
      counted = c.new-made.ensures.counted;
      steps = λ k. rw c.new-made.ensures.values here;
    }

pub run_map-each_entry-preserved : goal.run_map-each_entry-preserved
unfolding after Goes ChangesNames KeepsNames RestoresNames SuitsNames
run_map-each_entry-preserved g t c =
    let rules = under g.H.Host.name_of c.args.self.now g.T.NativeTable.natives in
    record {
      counts = omega (arith, c.each_entry.invariant.counts, c.if-not-run_expr.ensures.charges refl);
      names = leads_then c.each_entry.invariant.names (c.if-not-run_expr.ensures.names refl);
      counted = c.if-not-add.ensures.counted;
      steps = λ k. c.each_entry.invariant.steps k ⨾ rw (drop_item _ _ _ c.each_entry-test.true c.entry-item.is)
          (c.if-not-run_expr.ensures.runs (EntryValue _ _ _ _ ∷ k) ⨾ value_on rules (map key_of c.args.entries.now) c.each_entry.made.values
          c.run_expr.new.run.value _ _ k _ c.add.new.self.values (c.if-not-add.ensures.added refl));
    }

pub run_map-returns-then-not-add-clause-runs : goal.run_map-returns-then-not-add-clause-runs
unfolding after Goes
run_map-returns-then-not-add-clause-runs g t c template k =
    let rules = under g.H.Host.name_of c.args.self.now g.T.NativeTable.natives in
    next (c.each_entry.invariant.steps k ⨾ rw (drop_item _ _ _ c.each_entry-test.true c.entry-item.is)
    (c.if-not-run_expr.ensures.runs (EntryValue _ _ _ _ ∷ k) ⨾ value_fails rules (map key_of c.args.entries.now)
    c.each_entry.made.values c.run_expr.new.run.value _ _ k _ (error_in c.add.new.place) (c.if-not-add.ensures.refused refl)))

pub run_map-returns-then-not-run_expr-clause-runs : goal.run_map-returns-then-not-run_expr-clause-runs
unfolding after Goes
run_map-returns-then-not-run_expr-clause-runs g t c template k =
    next (c.each_entry.invariant.steps k ⨾ rw (drop_item _ _ _ c.each_entry-test.true c.entry-item.is)
    (c.if-not-run_expr.ensures.runs (EntryValue _ _ _ _ ∷ k) ⨾ next here))

pub run_map-returns-clause-runs : goal.run_map-returns-clause-runs
unfolding after Goes
run_map-returns-clause-runs g t c template k =
    let rules = under g.H.Host.name_of c.args.self.now g.T.NativeTable.natives in
    next (c.each_entry.invariant.steps k ⨾ rw (drop_all _ _ c.each_entry-test.false) (told rules _ _ c.finish.ensures k _))

pub run_interpolated-run_expr-requires : goal.run_interpolated-run_expr-requires
unfolding ChangesNames KeepsNames RestoresNames SuitsNames
run_interpolated-run_expr-requires g t c =
    λ κs lives. (
      omega arith,
      (
        lives.0,
        (
          lives.1,
          brings (λ frame. part_resolves c.args.parts.now c.each_part.part-index c.part-item.result frame
              c.each_part-test.true c.part-item.is) (still c.each_part.invariant.names c.requires.resolves),
        ),
      ),
    )

pub run_interpolated-each_part-init : goal.run_interpolated-each_part-init
unfolding after Goes ChangesNames KeepsNames RestoresNames SuitsNames
run_interpolated-each_part-init g t c =
    record { counts = omega arith; names = stays refl refl; steps = λ k. rw c.new-text.ensures.bytes here }

pub run_interpolated-each_part-preserved : goal.run_interpolated-each_part-preserved
unfolding after Goes ChangesNames KeepsNames RestoresNames SuitsNames
run_interpolated-each_part-preserved g t c =
    record {
      counts = omega (arith, c.each_part.invariant.counts, c.if-not-run_expr.ensures.charges refl, c.if-not-join.ensures.counts);
      names = leads_then c.each_part.invariant.names
          (leads_then (c.if-not-run_expr.ensures.names refl) (stays c.if-not-join.ensures.sight refl));
      steps = λ k. c.each_part.invariant.steps k ⨾ rw (drop_item _ _ _ c.each_part-test.true c.part-item.is)
          (c.if-not-run_expr.ensures.runs (TextPart _ _ _ ∷ k) ⨾ c.if-not-join.ensures.runs
          c.run_expr.new.run.scope (holding c.run_expr.new.run.this) _ k);
    }

pub run_interpolated-returns-then-not-run_expr-clause-runs : goal.run_interpolated-returns-then-not-run_expr-clause-runs
unfolding after Goes
run_interpolated-returns-then-not-run_expr-clause-runs g t c k =
    next (c.each_part.invariant.steps k ⨾ rw (drop_item _ _ _ c.each_part-test.true c.part-item.is) (c.if-not-run_expr.ensures.runs
    (TextPart _ _ _ ∷ k) ⨾ next here))

pub run_interpolated-returns-then-not-join-clause-runs : goal.run_interpolated-returns-then-not-join-clause-runs
unfolding after Goes
run_interpolated-returns-then-not-join-clause-runs g t c k =
    next (c.each_part.invariant.steps k ⨾ rw (drop_item _ _ _ c.each_part-test.true c.part-item.is)
    (c.if-not-run_expr.ensures.runs (TextPart _ _ _ ∷ k) ⨾ c.if-not-join.ensures.runs
    c.run_expr.new.run.scope (holding c.run_expr.new.run.this) _ k))

pub run_interpolated-returns-clause-runs : goal.run_interpolated-returns-clause-runs
unfolding after Goes
run_interpolated-returns-clause-runs g t c k =
    let rules = under g.H.Host.name_of c.args.self.now g.T.NativeTable.natives in
    next (c.each_part.invariant.steps k ⨾ rw (drop_all _ _ c.each_part-test.false) (told rules _ _ c.finish.ensures k _))

pub run_array-returns-clause-names : goal.run_array-returns-clause-names
unfolding KeepsNames
run_array-returns-clause-names g t c done = c.each_item.invariant.names

pub run_map-returns-clause-names : goal.run_map-returns-clause-names
unfolding KeepsNames
run_map-returns-clause-names g t c done = c.each_entry.invariant.names

pub run_interpolated-returns-clause-names : goal.run_interpolated-returns-clause-names
unfolding KeepsNames
run_interpolated-returns-clause-names g t c done = c.each_part.invariant.names
