use Rattle.std.proofs.Common.{true, ◌≡◌, ◌≤◌, ◌<◌, ◌∷◌, [], refl, sym, ◌∙◌, arith}
use Rattle.std.proofs.lemmas.Bool.{true≢false}
use Rattle.rhai_machine.specs.machine.Point.{after}
use Rattle.rhai_machine.specs.machine.Memory.{here, next, ◌⨾◌}
use Rattle.rhai_machine.specs.language.Frames.{WhileCondition, WhileBody, DoCondition, DoBody}
use Rattle.rhai_machine.specs.language.Runs.{Goes}
use Rattle.rhai_machine.specs.language.Statements.{has_option}
use Rattle.rhai_laws.proofs.KeptLaws.{counted}
use Rattle.rhai_context.specs.Ends.{came}
use Rattle.rhai_steps.proofs.Agreeing.{brings, leads_then, put_back, stays, still}
use Rattle.rhai_eval_steps.specs.Agreement.{ChangesNames, KeepsNames, RestoresNames, SuitsNames}
use Rattle.rhai_eval_steps.proofs.FormNames.{block_suits}
use Rattle.rhai_eval_core.specs.States.{under}
use Rattle.rhai_steps.specs.declared.loops.BodyEnd.TheVariants.{Continue, Break}
use Rattle.rhai_operands.specs.Tests.{Tests}
use Rattle.rhai_eval_steps.proofs.Conditions.{do_tested}
use Rattle.rhai_eval_steps.proofs.LoopSteps.{while_ends, do_leads, while_asks, endless_enters, endless_charged, endless_refused, on_end}
use Rattle.rhai_eval_steps.proofs.LoopSteps.{stays_full, turn_ended}
use Rattle.rhai_eval_steps.proofs.Turns.{body_charges, left_charges}
use Rattle.rhai_eval_steps.proofs.Chain.{on_ok}
use Rattle.rhai_eval_core.proofs.evaluator.Evaluator.+eval.Goals as goal

pub run_while-turns-init : goal.run_while-turns-init
unfolding after Goes ChangesNames KeepsNames RestoresNames SuitsNames
run_while-turns-init g t c =
    record { counts = omega arith; names = stays refl refl; steps = λ k. here }

pub run_while-turns-smaller : goal.run_while-turns-smaller
unfolding after Goes
run_while-turns-smaller g t c =
    let full : c.args.self.now.session.limits.max_operations ≤ c.turns.run.global.num_operations →
    c.while_turn.new.run.global.num_operations ≡ c.turns.run.global.num_operations = λ le. stays_full _ _ (c.while_turn.ensures.runs [])
    le in
    grind (arith, full, rw c.in_default.is at c.while_turn.ensures.charges)

pub run_while-turns-preserved : goal.run_while-turns-preserved
unfolding after Goes ChangesNames KeepsNames RestoresNames SuitsNames
run_while-turns-preserved g t c =
    record {
      counts = omega (arith, rw c.in_default.is at c.while_turn.ensures.charges);
      names = leads_then c.turns.invariant.names (rw c.in_default.is at c.while_turn.ensures.names);
      steps = λ k. c.turns.invariant.steps k ⨾ (rw c.in_default.is at c.while_turn.ensures.runs) k;
    }

pub run_while-returns-in-Some-clause-runs : goal.run_while-returns-in-Some-clause-runs
unfolding after Goes
run_while-returns-in-Some-clause-runs g t c k =
    c.turns.invariant.steps k ⨾ (rw (turn_ended c.in-Some.done _ _ _) at c.in-Some.ensures.runs) k

pub run_while-returns-in-Some-clause-counts : goal.run_while-returns-in-Some-clause-counts
run_while-returns-in-Some-clause-counts g t c done =
    omega (arith, c.turns.invariant.counts, on_end c.in-Some.done _ _ c.in-Some.ensures.charges done)

pub run_while-returns-in-Some-clause-names : goal.run_while-returns-in-Some-clause-names
unfolding ChangesNames KeepsNames RestoresNames SuitsNames
run_while-returns-in-Some-clause-names g t c done =
    leads_then c.turns.invariant.names (on_end c.in-Some.done _ _ c.in-Some.ensures.names done)

pub run_do-turns-init : goal.run_do-turns-init
unfolding after Goes ChangesNames KeepsNames RestoresNames SuitsNames
run_do-turns-init g t c =
    record { counts = omega arith; names = stays refl refl; steps = λ k. here }

pub run_do-turns-smaller : goal.run_do-turns-smaller
unfolding after Goes
run_do-turns-smaller g t c =
    let full : c.args.self.now.session.limits.max_operations ≤ c.turns.run.global.num_operations →
    c.do_turn.new.run.global.num_operations ≡ c.turns.run.global.num_operations = λ le. stays_full _ _ (c.do_turn.ensures.runs []) le in
    grind (arith, full, rw c.in_default.is at c.do_turn.ensures.charges)

pub run_do-turns-preserved : goal.run_do-turns-preserved
unfolding after Goes ChangesNames KeepsNames RestoresNames SuitsNames
run_do-turns-preserved g t c =
    record {
      counts = omega (arith, rw c.in_default.is at c.do_turn.ensures.charges);
      names = leads_then c.turns.invariant.names (rw c.in_default.is at c.do_turn.ensures.names);
      steps = λ k. c.turns.invariant.steps k ⨾ (rw c.in_default.is at c.do_turn.ensures.runs) k;
    }

pub run_do-returns-in-Some-clause-runs : goal.run_do-returns-in-Some-clause-runs
unfolding after Goes
run_do-returns-in-Some-clause-runs g t c k =
    c.turns.invariant.steps k ⨾ (rw (turn_ended c.in-Some.done _ _ _) at c.in-Some.ensures.runs) k

pub run_do-returns-in-Some-clause-counts : goal.run_do-returns-in-Some-clause-counts
run_do-returns-in-Some-clause-counts g t c done =
    omega (arith, c.turns.invariant.counts, on_end c.in-Some.done _ _ c.in-Some.ensures.charges done)

pub run_do-returns-in-Some-clause-names : goal.run_do-returns-in-Some-clause-names
unfolding ChangesNames KeepsNames RestoresNames SuitsNames
run_do-returns-in-Some-clause-names g t c done =
    leads_then c.turns.invariant.names (on_end c.in-Some.done _ _ c.in-Some.ensures.names done)

pub do_turn-returns-in-Stopped-clause-runs : goal.do_turn-returns-in-Stopped-clause-runs
unfolding after Goes
do_turn-returns-in-Stopped-clause-runs g t c k =
    let rules = under g.H.Host.name_of c.args.self.now g.T.NativeTable.natives in
    next ((rw c.as_slice-statements.ensures at c.run_stmt_block-done.ensures.runs) (DoBody _ _ _ ∷ k) ⨾ do_leads rules
    (came c.run_stmt_block-done.result c.run_stmt_block-done.new.run.value c.run_stmt_block-done.new.run.error) c.args.test.now
    c.args.body.now c.args.options k _ _
    (sym (rw c.in-Stopped.is at c.body_way.ensures)))

pub do_turn-returns-in-Break-clause-runs : goal.do_turn-returns-in-Break-clause-runs
unfolding after Goes
do_turn-returns-in-Break-clause-runs g t c k =
    let rules = under g.H.Host.name_of c.args.self.now g.T.NativeTable.natives in
    next ((rw c.as_slice-statements.ensures at c.run_stmt_block-done.ensures.runs) (DoBody _ _ _ ∷ k) ⨾ do_leads rules
    (came c.run_stmt_block-done.result c.run_stmt_block-done.new.run.value c.run_stmt_block-done.new.run.error) c.args.test.now
    c.args.body.now c.args.options k _ _
    (sym (rw c.in-Break.is at c.body_way.ensures)))

pub do_turn-returns-in-Break-clause-charges : goal.do_turn-returns-in-Break-clause-charges
do_turn-returns-in-Break-clause-charges g t c =
    let rules = under g.H.Host.name_of c.args.self.now g.T.NativeTable.natives in
    left_charges rules c.args.body.now.statements _ _ (came c.run_stmt_block-done.result c.run_stmt_block-done.new.run.value
    c.run_stmt_block-done.new.run.error) (Break c.body_way.new.out)
    (rw c.in-Break.is at c.body_way.ensures) refl (rw c.as_slice-statements.ensures at c.run_stmt_block-done.ensures.runs)

pub do_turn-returns-in-Break-clause-names : goal.do_turn-returns-in-Break-clause-names
unfolding ChangesNames KeepsNames RestoresNames SuitsNames
do_turn-returns-in-Break-clause-names g t c = put_back (c.run_stmt_block-done.ensures.restores refl)

pub do_turn-returns-in-Continue-clause-runs : goal.do_turn-returns-in-Continue-clause-runs
unfolding after Goes
do_turn-returns-in-Continue-clause-runs g t c k =
    let rules = under g.H.Host.name_of c.args.self.now g.T.NativeTable.natives in
    next ((rw c.as_slice-statements.ensures at c.run_stmt_block-done.ensures.runs) (DoBody _ _ _ ∷ k) ⨾ do_leads rules
    (came c.run_stmt_block-done.result c.run_stmt_block-done.new.run.value c.run_stmt_block-done.new.run.error) c.args.test.now
    c.args.body.now c.args.options k _ _
    (sym (rw c.in-Continue.is at c.body_way.ensures)))

pub do_turn-returns-in-Continue-clause-charges : goal.do_turn-returns-in-Continue-clause-charges
do_turn-returns-in-Continue-clause-charges g t c =
    let rules = under g.H.Host.name_of c.args.self.now g.T.NativeTable.natives in
    left_charges rules c.args.body.now.statements _ _ (came c.run_stmt_block-done.result c.run_stmt_block-done.new.run.value
    c.run_stmt_block-done.new.run.error) Continue
    (rw c.in-Continue.is at c.body_way.ensures) refl (rw c.as_slice-statements.ensures at c.run_stmt_block-done.ensures.runs)

pub do_turn-returns-in-Continue-clause-names : goal.do_turn-returns-in-Continue-clause-names
unfolding ChangesNames KeepsNames RestoresNames SuitsNames
do_turn-returns-in-Continue-clause-names g t c = put_back (c.run_stmt_block-done.ensures.restores refl)

pub do_turn-run_condition-requires : goal.do_turn-run_condition-requires
unfolding ChangesNames KeepsNames RestoresNames SuitsNames
do_turn-run_condition-requires g t c =
    let rules = under g.H.Host.name_of c.args.self.now g.T.NativeTable.natives in
    let counts = counted rules _ _ _ _ c.run_stmt_block-done.ensures.runs in
    λ κs lives. (
      omega (arith, counts),
      (lives.0, (lives.1, still (put_back (c.run_stmt_block-done.ensures.restores refl)) c.requires.resolves_test)),
    )

pub do_turn-returns-in-None-clause-runs : goal.do_turn-returns-in-None-clause-runs
unfolding after Goes Tests
do_turn-returns-in-None-clause-runs g t c k =
    let rules = under g.H.Host.name_of c.args.self.now g.T.NativeTable.natives in
    next ((rw c.as_slice-statements.ensures at c.run_stmt_block-done.ensures.runs) (DoBody _ _ _ ∷ k) ⨾ do_leads rules
    (came c.run_stmt_block-done.result c.run_stmt_block-done.new.run.value c.run_stmt_block-done.new.run.error) c.args.test.now
    c.args.body.now c.args.options k _ _
    (sym (rw c.in-Done.is at c.body_way.ensures)) ⨾ c.in-None.ensures.runs (DoCondition _ _ _) refl k)

pub do_turn-returns-in-Some-clause-runs : goal.do_turn-returns-in-Some-clause-runs
unfolding after Goes Tests
do_turn-returns-in-Some-clause-runs g t c k =
    let rules = under g.H.Host.name_of c.args.self.now g.T.NativeTable.natives in
    next ((rw c.as_slice-statements.ensures at c.run_stmt_block-done.ensures.runs) (DoBody _ _ _ ∷ k) ⨾ do_leads rules
    (came c.run_stmt_block-done.result c.run_stmt_block-done.new.run.value c.run_stmt_block-done.new.run.error) c.args.test.now
    c.args.body.now c.args.options k _ _
    (sym (rw c.in-Done.is at c.body_way.ensures)) ⨾ c.in-Some.ensures.runs (DoCondition _ _ _) refl k
    ⨾ rw c.settle_turn.ensures (do_tested rules _ (has_option 1 c.args.options) c.in-Some.holds _ k _ c.do_next-turn.ensures))

pub do_turn-returns-in-Some-clause-charges : goal.do_turn-returns-in-Some-clause-charges
do_turn-returns-in-Some-clause-charges g t c =
    let rules = under g.H.Host.name_of c.args.self.now g.T.NativeTable.natives in
    let counts = counted rules _ _ _ _ c.run_stmt_block-done.ensures.runs in
    let charged : c.args.run.now.global.num_operations < c.run_condition.new.run.global.num_operations =
    omega (arith, c.in-Some.ensures.charges, counts) in
    on_ok _ charged

pub do_turn-returns-in-Some-clause-names : goal.do_turn-returns-in-Some-clause-names
unfolding ChangesNames KeepsNames RestoresNames SuitsNames
do_turn-returns-in-Some-clause-names g t c =
    on_ok _ (leads_then (put_back (c.run_stmt_block-done.ensures.restores refl)) c.in-Some.ensures.names)

pub while_turn-returns-in-None-clause-runs : goal.while_turn-returns-in-None-clause-runs
unfolding after Goes Tests
while_turn-returns-in-None-clause-runs g t c k =
    let rules = under g.H.Host.name_of c.args.self.now g.T.NativeTable.natives in
    while_asks rules _ _ k _ (sym c.is_endless.ensures ∙ c.if-is_endless.false) ⨾ c.in-None.ensures.runs (WhileCondition _ _) refl k

pub while_turn-returns-then-is_empty-clause-runs : goal.while_turn-returns-then-is_empty-clause-runs
unfolding after Goes
while_turn-returns-then-is_empty-clause-runs g t c k =
    let rules = under g.H.Host.name_of c.args.self.now g.T.NativeTable.natives in
    endless_refused rules _ _ k _ c.args.run.now.global c.charge.new.global _ _ _ (c.if-charge.ensures.full refl)
    (c.if-charge.ensures.refused refl) (c.if-charge.ensures.same refl)
    (sym c.is_endless.ensures ∙ c.if-is_endless.true) (c.is_empty.ensures.0 c.if-is_empty.true)

pub while_turn-returns-then-charge-clause-runs : goal.while_turn-returns-then-charge-clause-runs
unfolding after Goes
while_turn-returns-then-charge-clause-runs g t c k =
    let rules = under g.H.Host.name_of c.args.self.now g.T.NativeTable.natives in
    endless_charged rules _ _ k _ c.args.run.now.global c.charge.new.global _ _ (c.if-charge.ensures.room refl)
    (c.if-charge.ensures.charged refl) (sym c.is_endless.ensures ∙ c.if-is_endless.true) (c.is_empty.ensures.0 c.if-is_empty.true)

pub while_turn-returns-then-is_endless-clause-runs : goal.while_turn-returns-then-is_endless-clause-runs
unfolding after Goes
while_turn-returns-then-is_endless-clause-runs g t c k =
    let rules = under g.H.Host.name_of c.args.self.now g.T.NativeTable.natives in
    endless_enters rules _ _ k _ (sym c.is_endless.ensures ∙ c.if-is_endless.true) (λ empty. absurd
    (true≢false (sym (c.is_empty.ensures.1 empty) ∙ c.if-is_empty.false)))
    ⨾ rw c.turn_end.ensures ((rw c.as_slice.ensures at c.run_stmt_block-done.ensures.runs) (WhileBody _ _ ∷ k)
    ⨾ while_ends rules (came c.run_stmt_block-done.result c.run_stmt_block-done.new.run.value c.run_stmt_block-done.new.run.error) _ _ k _)

pub while_turn-returns-then-is_endless-clause-charges : goal.while_turn-returns-then-is_endless-clause-charges
while_turn-returns-then-is_endless-clause-charges g t c =
    let rules = under g.H.Host.name_of c.args.self.now g.T.NativeTable.natives in
    rw c.turn_end.ensures (body_charges rules c.args.body.now.statements _ _ (came c.run_stmt_block-done.result
    c.run_stmt_block-done.new.run.value c.run_stmt_block-done.new.run.error) (λ empty. absurd
    (true≢false (sym (c.is_empty.ensures.1 empty) ∙ c.if-is_empty.false)))
    (rw c.as_slice.ensures at c.run_stmt_block-done.ensures.runs))

pub while_turn-returns-then-is_endless-clause-names : goal.while_turn-returns-then-is_endless-clause-names
unfolding ChangesNames KeepsNames RestoresNames SuitsNames
while_turn-returns-then-is_endless-clause-names g t c = on_ok _ (put_back (c.run_stmt_block-done.ensures.restores refl))

pub while_turn-returns-then-holds-clause-runs : goal.while_turn-returns-then-holds-clause-runs
unfolding after Goes Tests
while_turn-returns-then-holds-clause-runs g t c k =
    let rules = under g.H.Host.name_of c.args.self.now g.T.NativeTable.natives in
    while_asks rules _ _ k _ (sym c.is_endless.ensures ∙ c.if-is_endless.false)
    ⨾ (rw c.if-holds.true at c.in-Some.ensures.runs) (WhileCondition _ _) refl k
    ⨾ rw c.turn_end-then-holds.ensures ((rw c.as_slice-statements.ensures at c.run_stmt_block-done-then-holds.ensures.runs)
    (WhileBody _ _ ∷ k)
    ⨾ while_ends rules (came c.run_stmt_block-done-then-holds.result c.run_stmt_block-done-then-holds.new.run.value
    c.run_stmt_block-done-then-holds.new.run.error) _ _ k _)

pub while_turn-returns-then-holds-clause-charges : goal.while_turn-returns-then-holds-clause-charges
while_turn-returns-then-holds-clause-charges g t c =
    let rules = under g.H.Host.name_of c.args.self.now g.T.NativeTable.natives in
    let counts = counted rules _ _ _ _ c.run_stmt_block-done-then-holds.ensures.runs in
    let charged : c.args.run.now.global.num_operations < c.run_stmt_block-done-then-holds.new.run.global.num_operations =
    omega (arith, c.in-Some.ensures.charges, counts) in
    on_ok _ charged

pub while_turn-returns-then-holds-clause-names : goal.while_turn-returns-then-holds-clause-names
unfolding ChangesNames KeepsNames RestoresNames SuitsNames
while_turn-returns-then-holds-clause-names g t c =
    on_ok _ (leads_then c.in-Some.ensures.names (put_back (c.run_stmt_block-done-then-holds.ensures.restores refl)))

pub while_turn-returns-else-holds-clause-runs : goal.while_turn-returns-else-holds-clause-runs
unfolding after Goes Tests
while_turn-returns-else-holds-clause-runs g t c k =
    let rules = under g.H.Host.name_of c.args.self.now g.T.NativeTable.natives in
    while_asks rules _ _ k _ (sym c.is_endless.ensures ∙ c.if-is_endless.false)
    ⨾ (rw c.if-holds.false at c.in-Some.ensures.runs) (WhileCondition _ _) refl k ⨾ rw c.put_unit.ensures here

pub run_while-while_turn-requires : goal.run_while-while_turn-requires
unfolding ChangesNames KeepsNames RestoresNames SuitsNames
run_while-while_turn-requires g t c =
    let test = still c.turns.invariant.names c.requires.resolves_test in
    let body = still c.turns.invariant.names c.requires.resolves_body in
    λ κs lives. (
      omega (arith, c.turns.invariant.counts),
      (lives.0, (lives.1, (test, body))),
    )

pub run_do-do_turn-requires : goal.run_do-do_turn-requires
unfolding ChangesNames KeepsNames RestoresNames SuitsNames
run_do-do_turn-requires g t c =
    let test = still c.turns.invariant.names c.requires.resolves_test in
    let body = still c.turns.invariant.names c.requires.resolves_body in
    λ κs lives. (
      omega (arith, c.turns.invariant.counts),
      (lives.0, (lives.1, (test, body))),
    )

pub while_turn-run_stmt_block-done-requires : goal.while_turn-run_stmt_block-done-requires
unfolding ChangesNames KeepsNames RestoresNames SuitsNames
while_turn-run_stmt_block-done-requires g t c =
    λ κs lives. (
      omega arith,
      (lives.0, (lives.1, rw c.as_slice.ensures (block_suits c.args.body.now c.requires.resolves_body))),
    )

pub while_turn-run_stmt_block-done-requires-then-holds : goal.while_turn-run_stmt_block-done-requires-then-holds
unfolding ChangesNames KeepsNames RestoresNames SuitsNames
while_turn-run_stmt_block-done-requires-then-holds g t c =
    let suits = still c.in-Some.ensures.names (block_suits c.args.body.now c.requires.resolves_body) in
    λ κs lives. (
      omega (arith, c.in-Some.ensures.charges),
      (lives.0, (lives.1, rw c.as_slice-statements.ensures suits)),
    )

pub do_turn-run_stmt_block-done-requires : goal.do_turn-run_stmt_block-done-requires
unfolding ChangesNames KeepsNames RestoresNames SuitsNames
do_turn-run_stmt_block-done-requires g t c =
    λ κs lives. (
      omega arith,
      (lives.0, (lives.1, rw c.as_slice-statements.ensures (block_suits c.args.body.now c.requires.resolves_body))),
    )

pub run_break-run_expr-requires : goal.run_break-run_expr-requires
unfolding ChangesNames KeepsNames RestoresNames SuitsNames
run_break-run_expr-requires g t c =
    λ κs lives. (
      omega arith,
      (lives.0, (lives.1, brings (λ frame h. rw c.in-Some.is at h) c.requires.resolves)),
    )

pub run_return-run_expr-requires : goal.run_return-run_expr-requires
unfolding ChangesNames KeepsNames RestoresNames SuitsNames
run_return-run_expr-requires g t c =
    λ κs lives. (
      omega arith,
      (lives.0, (lives.1, brings (λ frame h. rw c.in-Some.is at h) c.requires.resolves)),
    )

pub while_turn-returns-then-charge-clause-names : goal.while_turn-returns-then-charge-clause-names
unfolding ChangesNames KeepsNames RestoresNames SuitsNames
while_turn-returns-then-charge-clause-names g t c = stays c.if-charge.ensures.sight refl

pub while_turn-returns-else-holds-clause-names : goal.while_turn-returns-else-holds-clause-names
unfolding KeepsNames
while_turn-returns-else-holds-clause-names g t c = c.in-Some.ensures.names
