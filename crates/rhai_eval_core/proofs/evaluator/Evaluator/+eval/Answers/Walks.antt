use Rattle.std.proofs.Common.{◌≡◌, ◌≢◌, ◌≤◌, ◌∷◌, ◌∙◌, [], ap, arith, length, map, refl, sym, true, false}
use Rattle.std.proofs.lemmas.Bool.{true≢false}
use Rattle.std.proofs.lemmas.List.{length-map}
use Rattle.rhai_tree.specs.Frame.{turn_names}
use Rattle.rhai_lookups.specs.declared.run.RunState.{RunState}
use Rattle.rhai_state.specs.Scope.{entries_of, name_of}
use Rattle.rhai_machine.specs.machine.Point.{after}
use Rattle.rhai_machine.specs.machine.Memory.{next, ◌⨾◌, here}
use Rattle.rhai_machine.specs.language.Frames.{ForBody, ForItems, RestoreScope}
use Rattle.rhai_machine.specs.language.Runs.{Goes}
use Rattle.rhai_laws.proofs.KeptLaws.{counted}
use Rattle.rhai_steps.specs.States.{holding}
use Rattle.rhai_stmt.specs.TurnsLeft.{turns_in}
use Rattle.rhai_stmt.specs.Loops.{loop_in}
use Rattle.rhai_stmt.specs.declared.parts.ForParts.{ForParts}
use Rattle.rhai_context.specs.Ends.{came}
use Rattle.rhai_steps.proofs.Agreeing.{behind, leads_by, leads_then, put_back, same, changed}
use Rattle.rhai_eval_steps.specs.Agreement.{ChangesNames, KeepsNames, RestoresNames, SuitsNames}
use Rattle.rhai_eval_core.specs.States.{under}
use Rattle.rhai_eval_steps.proofs.Turns.{body_charges}
use Rattle.rhai_eval_steps.proofs.LoopSteps.{stays_full, turn_ended}
use Rattle.rhai_eval_steps.proofs.NameLemmas.{back_over}
use Rattle.rhai_eval_steps.proofs.FormNames.{block_suits, loop_left, loop_names, turn_count}
use Rattle.rhai_eval_steps.proofs.ForSteps.{body_ends, empty_charged, empty_refused, has_none, has_room, leaves_scope, starts}
use Rattle.rhai_eval_steps.proofs.ForSteps.{if_well, on_turn, starts_not, turns_end}
use Rattle.rhai_eval_core.proofs.evaluator.Evaluator.+eval.Goals as goal
use Rattle.rhai_eval_steps.proofs.Chain.{flat_fails}
use Rattle.rhai_tree.specs.Names.{naming}

pub run_for-returns-then-not-has_room-clause-runs : goal.run_for-returns-then-not-has_room-clause-runs
unfolding after Goes
run_for-returns-then-not-has_room-clause-runs g t c pos restoring k =
    let rules = under g.H.Host.name_of c.args.self.now g.T.NativeTable.natives in
    let parts : ForParts =
    record { variable = c.args.variable; counter = c.args.counter; items = c.args.items; body = c.args.body } in
    rw (c.if-not-has_room.ensures.told refl)
    (has_none rules (loop_in parts) k pos restoring _ (c.if-not-has_room.ensures.full refl))

pub run_for-returns-then-not-run_expr-clause-runs : goal.run_for-returns-then-not-run_expr-clause-runs
unfolding after Goes
run_for-returns-then-not-run_expr-clause-runs g t c pos restoring k =
    let rules = under g.H.Host.name_of c.args.self.now g.T.NativeTable.natives in
    let parts : ForParts =
    record { variable = c.args.variable; counter = c.args.counter; items = c.args.items; body = c.args.body } in
    let loop = loop_in parts in
    has_room rules loop k pos restoring _ (c.if-not-has_room.ensures.room refl)
    ⨾ c.if-not-run_expr.ensures.runs (ForItems loop ∷ k) ⨾ next here

pub run_for-returns-then-not-flatten_at-clause-runs : goal.run_for-returns-then-not-flatten_at-clause-runs
unfolding after Goes
run_for-returns-then-not-flatten_at-clause-runs g t c pos restoring k =
    let rules = under g.H.Host.name_of c.args.self.now g.T.NativeTable.natives in
    let parts : ForParts =
    record { variable = c.args.variable; counter = c.args.counter; items = c.args.items; body = c.args.body } in
    let loop = loop_in parts in
    has_room rules loop k pos restoring _ (c.if-not-has_room.ensures.room refl)
    ⨾ c.if-not-run_expr.ensures.runs (ForItems loop ∷ k)
    ⨾ flat_fails rules _ _ k _ _ (ForItems loop) refl c.if-not-flatten_at.ensures.exact

pub run_for-returns-in_default-clause-runs : goal.run_for-returns-in_default-clause-runs
unfolding after Goes
run_for-returns-in_default-clause-runs g t c pos restoring k =
    let rules = under g.H.Host.name_of c.args.self.now g.T.NativeTable.natives in
    let parts : ForParts =
    record { variable = c.args.variable; counter = c.args.counter; items = c.args.items; body = c.args.body } in
    let loop = loop_in parts in
    has_room rules loop k pos restoring _ (c.if-not-has_room.ensures.room refl)
    ⨾ c.if-not-run_expr.ensures.runs (ForItems loop ∷ k)
    ⨾ rw (c.start_turns.ensures.same c.in_default.is)
    (starts_not rules loop k _ c.flatten_at.new.out _ _ (c.if-not-flatten_at.ensures.exact tt)
    (c.start_turns.ensures.none c.in_default.is) (c.start_turns.ensures.told c.in_default.is))

pub run_for-turns-init : goal.run_for-turns-init
unfolding after Goes ChangesNames KeepsNames RestoresNames SuitsNames
run_for-turns-init g t c =
    let rules = under g.H.Host.name_of c.args.self.now g.T.NativeTable.natives in
    let parts : ForParts =
    record { variable = c.args.variable; counter = c.args.counter; items = c.args.items; body = c.args.body } in
    let loop = loop_in parts in
    let old = c.run_expr.new.run in
    let pushed = loop_names loop (entries_of old.scope) _ c.in-Some.ensures.variables in
    record {
      counts = omega (arith, c.if-not-run_expr.ensures.charges refl);
      base = omega (
        arith,
        c.len-base.ensures,
        length-map (entries_of old.scope) name_of,
        ap length pushed,
        turn_count parts.variable.now parts.counter.now (map name_of (entries_of old.scope)),
      );
      names = leads_by (naming (turn_names parts.variable.now parts.counter.now)) (c.if-not-run_expr.ensures.names refl)
          (changed (turn_names parts.variable.now parts.counter.now) refl pushed);
      steps = λ pos restoring k.
          has_room rules loop k pos restoring _ (c.if-not-has_room.ensures.room refl)
          ⨾ c.if-not-run_expr.ensures.runs (ForItems loop ∷ k)
          ⨾ starts rules loop k _ c.flatten_at.new.out _ _ old.global old.scope c.start_turns.new.scope (holding old.this)
          c.len-base.result
          (c.if-not-flatten_at.ensures.exact tt) c.in-Some.ensures.turns c.in-Some.ensures.variables c.len-base.ensures;
    }

pub run_for-run_for_turn-requires : goal.run_for-run_for_turn-requires
unfolding ChangesNames KeepsNames RestoresNames SuitsNames
run_for-run_for_turn-requires g t c =
    let parts : ForParts =
    record { variable = c.args.variable; counter = c.args.counter; items = c.args.items; body = c.args.body } in
    λ κs lives. (
      omega (arith, c.turns.invariant.counts),
      (
        lives.0,
        (
          lives.1,
          (
            behind (naming (turn_names parts.variable.now parts.counter.now)) (λ frame h. h) c.turns.invariant.names
                c.requires.resolves_body,
            c.turns.invariant.base,
          ),
        ),
      ),
    )

pub run_for-next_number-turn-requires : goal.run_for-next_number-turn-requires
run_for-next_number-turn-requires g t c = omega (
  arith,
  c.turns.invariant.counts,
  c.run_for_turn.ensures.charges c.in_default-run_for_turn.is,
)

pub run_for-turns-smaller : goal.run_for-turns-smaller
unfolding after Goes
run_for-turns-smaller g t c =
    let full : c.args.self.now.session.limits.max_operations ≤ c.turns.run.global.num_operations →
    c.run_for_turn.new.run.global.num_operations ≡ c.turns.run.global.num_operations = λ le. stays_full _ _ (c.run_for_turn.ensures.runs [])
    le in
    grind (arith, full, c.run_for_turn.ensures.charges)

pub run_for-turns-preserved : goal.run_for-turns-preserved
unfolding after Goes ChangesNames KeepsNames RestoresNames SuitsNames
run_for-turns-preserved g t c =
    record {
      counts = omega (
        arith,
        c.turns.invariant.counts,
        c.run_for_turn.ensures.charges c.in_default-run_for_turn.is,
        c.next_number-turn.ensures,
      );
      base = c.turns.invariant.base ∙ ap length (sym (c.run_for_turn.ensures.names_stay c.in_default-run_for_turn.is).names);
      names = leads_then c.turns.invariant.names (put_back (c.run_for_turn.ensures.names_stay c.in_default-run_for_turn.is));
      steps = λ pos restoring k.
          c.turns.invariant.steps pos restoring k
          ⨾ rw c.next_number-turn.ensures ((rw c.in_default-run_for_turn.is at c.run_for_turn.ensures.runs) (RestoreScope
          c.len-base.result ∷ k));
    }

pub run_for-returns-in-Some-run_for_turn-clause-runs : goal.run_for-returns-in-Some-run_for_turn-clause-runs
unfolding after Goes
run_for-returns-in-Some-run_for_turn-clause-runs g t c pos restoring k =
    let rules = under g.H.Host.name_of c.args.self.now g.T.NativeTable.natives in
    let parts : ForParts =
    record { variable = c.args.variable; counter = c.args.counter; items = c.args.items; body = c.args.body } in
    let loop = loop_in parts in
    let new = c.run_for_turn.new.run in
    c.turns.invariant.steps pos restoring k
    ⨾ (rw (turn_ended c.in-Some-run_for_turn.done _ _ _) at c.in-Some-run_for_turn.ensures.runs) (RestoreScope c.len-base.result ∷ k)
    ⨾ leaves_scope rules loop k _ c.len-base.result _ new.global new.scope c.rewind.new.self (holding new.this) c.rewind.ensures

pub run_for-returns-in-Some-run_for_turn-clause-counts : goal.run_for-returns-in-Some-run_for_turn-clause-counts
run_for-returns-in-Some-run_for_turn-clause-counts g t c done = omega (
  arith,
  c.turns.invariant.counts,
  c.in-Some-run_for_turn.ensures.counts done,
)

pub run_for-returns-in-Some-run_for_turn-clause-names : goal.run_for-returns-in-Some-run_for_turn-clause-names
unfolding ChangesNames KeepsNames RestoresNames SuitsNames
run_for-returns-in-Some-run_for_turn-clause-names g t c done =
    let parts : ForParts =
    record { variable = c.args.variable; counter = c.args.counter; items = c.args.items; body = c.args.body } in
    loop_left parts.variable.now parts.counter.now (entries_of c.args.run.now.scope) (entries_of c.turns.run.scope)
    (entries_of c.run_for_turn.new.run.scope) (entries_of c.rewind.new.self) c.len-base.result c.turns.invariant.base
    c.turns.invariant.names (c.in-Some-run_for_turn.ensures.names done) c.rewind.ensures

pub run_for_turn-returns-in_default-clause-runs : goal.run_for_turn-returns-in_default-clause-runs
unfolding after Goes
run_for_turn-returns-in_default-clause-runs g t c k =
    let rules = under g.H.Host.name_of c.args.self.now g.T.NativeTable.natives in
    rw c.put_unit.ensures (turns_end rules (loop_in c.args.parts) k c.args.turn c.args.base _ _ (c.next.ensures.none c.in_default.is))

pub run_for_turn-returns-then-charge-clause-runs : goal.run_for_turn-returns-then-charge-clause-runs
unfolding after Goes
run_for_turn-returns-then-charge-clause-runs g t c k =
    let rules = under g.H.Host.name_of c.args.self.now g.T.NativeTable.natives in
    empty_charged rules (loop_in c.args.parts) k c.args.turn c.args.base _ _ _ c.in-Some.ensures.some
    (c.is_empty.ensures.0 c.if-is_empty.true)
    _ c.args.run.now.global c.charge.new.global _ _ (c.if-charge.ensures.room refl) (c.if-charge.ensures.charged refl)

pub run_for_turn-returns-then-is_empty-clause-runs : goal.run_for_turn-returns-then-is_empty-clause-runs
unfolding after Goes
run_for_turn-returns-then-is_empty-clause-runs g t c k =
    let rules = under g.H.Host.name_of c.args.self.now g.T.NativeTable.natives in
    empty_refused rules (loop_in c.args.parts) k c.args.turn c.args.base _ _ _ c.in-Some.ensures.some
    (c.is_empty.ensures.0 c.if-is_empty.true)
    _ c.args.run.now.global c.charge.new.global _ _ _ (c.if-charge.ensures.full refl) (c.if-charge.ensures.refused refl)
    (c.if-charge.ensures.same refl)

pub run_for_turn-enter_turn-requires : goal.run_for_turn-enter_turn-requires
unfolding ChangesNames KeepsNames RestoresNames SuitsNames
run_for_turn-enter_turn-requires g t c = c.requires.variables ∙ length-map (entries_of c.args.run.now.scope) name_of

pub run_for_turn-returns-then-not-enter_turn-clause-runs : goal.run_for_turn-returns-then-not-enter_turn-clause-runs
unfolding after Goes
run_for_turn-returns-then-not-enter_turn-clause-runs g t c k =
    c.if-not-enter_turn.ensures.enters (holding c.args.run.now.this) _ _ c.in-Some.ensures.some
    (λ empty. absurd (true≢false (sym (c.is_empty.ensures.1 empty) ∙ c.if-is_empty.false))) k

pub run_for_turn-run_stmt_block-done-requires : goal.run_for_turn-run_stmt_block-done-requires
unfolding ChangesNames KeepsNames RestoresNames SuitsNames
run_for_turn-run_stmt_block-done-requires g t c =
    let count = ap (λ (global : RunState _). global.num_operations) c.enter_turn.ensures.rest in
    λ κs lives. (
      omega (arith, count),
      (
        lives.0,
        (
          lives.1,
          rw c.as_slice-statements.ensures
              (same c.enter_turn.ensures.sight c.enter_turn.ensures.names (block_suits c.args.parts.body.now c.requires.resolves)),
        ),
      ),
    )

pub run_for_turn-returns-clause-runs : goal.run_for_turn-returns-clause-runs
unfolding after Goes
run_for_turn-returns-clause-runs g t c k =
    let rules = under g.H.Host.name_of c.args.self.now g.T.NativeTable.natives in
    let loop = loop_in c.args.parts in
    let rest = turns_in c.next.new.self in
    c.if-not-enter_turn.ensures.enters (holding c.args.run.now.this) _ rest c.in-Some.ensures.some
    (λ empty. absurd (true≢false (sym (c.is_empty.ensures.1 empty) ∙ c.if-is_empty.false))) k
    ⨾ (rw c.as_slice-statements.ensures at c.run_stmt_block-done.ensures.runs) (ForBody loop rest c.args.turn c.args.base ∷ k)
    ⨾ rw c.turn_end.ensures
    (body_ends rules loop k c.args.turn c.args.base (came c.run_stmt_block-done.result c.run_stmt_block-done.new.run.value
    c.run_stmt_block-done.new.run.error) rest _)

pub run_for_turn-returns-clause-charges : goal.run_for_turn-returns-clause-charges
run_for_turn-returns-clause-charges g t c none =
    let rules = under g.H.Host.name_of c.args.self.now g.T.NativeTable.natives in
    let count = ap (λ (global : RunState _). global.num_operations) c.enter_turn.ensures.rest in
    let charged = on_turn rules (loop_in c.args.parts) [] _ _ _ _ _ c.turn_end.ensures none
    (body_charges rules c.args.parts.body.now.statements _ _ (came c.run_stmt_block-done.result c.run_stmt_block-done.new.run.value
    c.run_stmt_block-done.new.run.error) (λ empty. absurd
    (true≢false (sym (c.is_empty.ensures.1 empty) ∙ c.if-is_empty.false)))
    (rw c.as_slice-statements.ensures at c.run_stmt_block-done.ensures.runs)) in
    omega (arith, charged, count)

pub run_for_turn-returns-clause-counts : goal.run_for_turn-returns-clause-counts
run_for_turn-returns-clause-counts g t c =
    let rules = under g.H.Host.name_of c.args.self.now g.T.NativeTable.natives in
    let count = ap (λ (global : RunState _). global.num_operations) c.enter_turn.ensures.rest in
    let later = counted rules _ _ _ _ c.run_stmt_block-done.ensures.runs in
    let counts : c.args.run.now.global.num_operations ≤ c.run_stmt_block-done.new.run.global.num_operations =
    omega (arith, later, count) in
    if_well _ counts

pub run_for_turn-returns-clause-names_stay : goal.run_for_turn-returns-clause-names_stay
unfolding ChangesNames KeepsNames RestoresNames SuitsNames
run_for_turn-returns-clause-names_stay g t c none =
    back_over c.enter_turn.ensures.sight c.enter_turn.ensures.names (c.run_stmt_block-done.ensures.restores refl)

pub run_for_turn-returns-clause-names : goal.run_for_turn-returns-clause-names
unfolding ChangesNames KeepsNames RestoresNames SuitsNames
run_for_turn-returns-clause-names g t c =
    if_well _ (back_over c.enter_turn.ensures.sight c.enter_turn.ensures.names (c.run_stmt_block-done.ensures.restores refl))

pub run_for_turn-returns-in_default-clause-names : goal.run_for_turn-returns-in_default-clause-names
unfolding ChangesNames KeepsNames RestoresNames SuitsNames
run_for_turn-returns-in_default-clause-names g t c done = record { sight = refl; names = refl }

pub run_for_turn-returns-then-charge-clause-names_stay : goal.run_for_turn-returns-then-charge-clause-names_stay
unfolding ChangesNames KeepsNames RestoresNames SuitsNames
run_for_turn-returns-then-charge-clause-names_stay g t c none = record { sight = c.charge.ensures.sight; names = refl }

pub run_for-run_expr-requires : goal.run_for-run_expr-requires
unfolding SuitsNames
run_for-run_expr-requires g t c =
    λ κs lives. (
      omega arith,
      (lives.0, (lives.1, c.requires.resolves_items)),
    )
