use Rattle.std.proofs.Common.{[], ◌∷◌, refl, sym, ap, ◌∙◌, arith, is_some}
use Rattle.rhai_steps.specs.States.{holding}
use Rattle.rhai_state.specs.Scope.{names_in}
use Rattle.rhai_lookups.specs.declared.run.RunState.{RunState}
use Rattle.rhai_machine.specs.machine.Machine.{Go}
use Rattle.rhai_machine.specs.machine.Point.{after}
use Rattle.rhai_machine.specs.machine.Memory.{here, next, ◌⨾◌}
use Rattle.rhai_machine.specs.language.Frames.{core, Eval, UnaryOperand, LeftOperand, RightOperand}
use Rattle.rhai_machine.specs.language.Runs.{Goes}
use Rattle.rhai_steps.proofs.Agreeing.{brings, leads_then, same, stays, still}
use Rattle.rhai_steps.proofs.Pieces.{step_by}
use Rattle.rhai_eval_steps.specs.Agreement.{ChangesNames, KeepsNames, RestoresNames, SuitsNames}
use Rattle.rhai_eval_core.specs.States.{under}
use Rattle.rhai_eval_steps.specs.States.{state_in}
use Rattle.rhai_operands.proofs.Names.{operands_of_call, operands_resolve, path_of_call}
use Rattle.rhai_operands.proofs.InPlace.{opens_binary}
use Rattle.rhai_eval_steps.proofs.NameLemmas.{first_resolves}
use Rattle.rhai_eval_steps.proofs.CallSteps.{begins_call}
use Rattle.rhai_eval_steps.proofs.Chain.{flat_fails, opens_unary, still_none}
use Rattle.rhai_eval_steps.proofs.PlainLemmas.{known_goes, plain_begins}
use Rattle.rhai_eval_core.proofs.evaluator.Evaluator.+eval.Goals as goal

pub run_fn_call_expr-run_function-requires : goal.run_fn_call_expr-run_function-requires
unfolding ChangesNames KeepsNames RestoresNames SuitsNames
run_fn_call_expr-run_function-requires g t c =
    λ κs lives. (omega arith, (lives.0, (lives.1, (c.requires.resolves, c.may_operate.ensures c.if-may_operate.false))))

pub run_operation-run_unary-requires : goal.run_operation-run_unary-requires
unfolding ChangesNames KeepsNames RestoresNames SuitsNames
run_operation-run_unary-requires g t c =
    let form = rw c.in-Unary.is at c.form_of.ensures in
    λ κs lives. (
      omega arith,
      (
        lives.0,
        (
          lives.1,
          (
            form.1,
            (
              form.2,
              (
                brings (λ frame h. (first_resolves c.args.call.now.args c.in-Unary.operand.now [] frame form.2
                    (operands_of_call c.args.call.now c.args.pos frame h)).0) c.requires.resolves,
                form.0,
              ),
            ),
          ),
        ),
      ),
    )

pub run_operation-run_operator-requires : goal.run_operation-run_operator-requires
unfolding ChangesNames KeepsNames RestoresNames SuitsNames
run_operation-run_operator-requires g t c =
    let form = rw c.in-Binary.is at c.form_of.ensures in
    λ κs lives. (
      omega (arith, c.operate_in_place-in_place.ensures.counts),
      (
        lives.0,
        (
          lives.1,
          (
            form.1,
            (
              form.2,
              (
                same c.operate_in_place-in_place.ensures.sight refl (brings (λ frame h. (operands_resolve c.args.call.now c.args.pos
                    c.in-Binary.left.now c.in-Binary.right.now frame form.2 h).0) c.requires.resolves),
                (
                  same c.operate_in_place-in_place.ensures.sight refl (brings (λ frame h. (operands_resolve c.args.call.now
                      c.args.pos c.in-Binary.left.now c.in-Binary.right.now frame form.2 h).1) c.requires.resolves),
                  form.0,
                ),
              ),
            ),
          ),
        ),
      ),
    )

pub run_operation-returns-in-Some-clause-runs : goal.run_operation-returns-in-Some-clause-runs
run_operation-returns-in-Some-clause-runs g t c =
    let form = rw c.in-Binary.is at c.form_of.ensures in
    c.in-Some.ensures.runs (holding c.args.run.now.this) form.0

pub run_operation-returns-in_default-clause-runs : goal.run_operation-returns-in_default-clause-runs
run_operation-returns-in_default-clause-runs g t c =
    rw (c.operate_in_place-in_place.ensures.left_alone c.in_default.is) at c.run_operator.ensures.runs

pub run_operation-run_function-requires : goal.run_operation-run_function-requires
unfolding ChangesNames KeepsNames RestoresNames SuitsNames
run_operation-run_function-requires g t c =
    λ κs lives. (omega arith, (lives.0, (lives.1, (c.requires.resolves, rw c.in-Function.is at c.form_of.ensures))))

pub run_unary-operate_on_one-called-requires : goal.run_unary-operate_on_one-called-requires
unfolding ChangesNames KeepsNames RestoresNames SuitsNames
run_unary-operate_on_one-called-requires g t c = (omega arith, c.new-operands.ensures)

pub run_unary-returns-then-not-run_arg-clause-runs : goal.run_unary-returns-then-not-run_arg-clause-runs
unfolding after Goes
run_unary-returns-then-not-run_arg-clause-runs g t c k =
    let rules = under g.H.Host.name_of c.args.self.now g.T.NativeTable.natives in
    opens_unary rules c.args.call.now c.args.token c.args.operand.now c.args.pos k _ c.requires.fast c.requires.token c.requires.args
    ⨾ c.if-not-run_arg.ensures.runs (UnaryOperand _ _ ∷ k) ⨾ next here

pub run_unary-returns-then-not-flatten_at-clause-runs : goal.run_unary-returns-then-not-flatten_at-clause-runs
unfolding after Goes
run_unary-returns-then-not-flatten_at-clause-runs g t c k =
    let rules = under g.H.Host.name_of c.args.self.now g.T.NativeTable.natives in
    opens_unary rules c.args.call.now c.args.token c.args.operand.now c.args.pos k _ c.requires.fast c.requires.token c.requires.args
    ⨾ c.if-not-run_arg.ensures.runs (UnaryOperand _ _ ∷ k)
    ⨾ flat_fails rules _ _ k _ _ (UnaryOperand _ _) refl c.if-not-flatten_at.ensures.exact

pub run_unary-returns-clause-runs : goal.run_unary-returns-clause-runs
unfolding after Goes
run_unary-returns-clause-runs g t c k =
    let rules = under g.H.Host.name_of c.args.self.now g.T.NativeTable.natives in
    opens_unary rules c.args.call.now c.args.token c.args.operand.now c.args.pos k _ c.requires.fast c.requires.token c.requires.args
    ⨾ c.if-not-run_arg.ensures.runs (UnaryOperand _ _ ∷ k)
    ⨾ next (rw (← (c.if-not-flatten_at.ensures.exact tt)) (c.operate_on_one-called.ensures.runs k))
    ⨾ c.finish_call-done.ensures.runs k

pub run_function-run_plain_call-requires : goal.run_function-run_plain_call-requires
unfolding ChangesNames KeepsNames RestoresNames SuitsNames
run_function-run_plain_call-requires g t c =
    rw c.plain_callee.ensures.same (λ κs lives. (
      omega arith,
      (lives.0, (lives.1, (brings (operands_of_call c.args.call.now c.args.pos) c.requires.resolves, c.in-Some.ensures.plain))),
    ))

pub run_function-returns-in-Some-clause-runs : goal.run_function-returns-in-Some-clause-runs
unfolding Goes
run_function-returns-in-Some-clause-runs g t c k =
    let rules = under g.H.Host.name_of c.args.self.now g.T.NativeTable.natives in
    plain_begins rules c.args.call.now c.args.run.now.global.lists.0 c.in-Some.function
    c.in-Some.ensures.plain c.args.pos k _ c.requires.form
    ⨾ (rw c.plain_callee.ensures.same at c.run_plain_call.ensures.runs) k

pub run_function-returns-in-Some-clause-names : goal.run_function-returns-in-Some-clause-names
run_function-returns-in-Some-clause-names g t c done =
    rw c.plain_callee.ensures.same at (c.run_plain_call.ensures.names done)

pub run_function-run_qualified_call-requires : goal.run_function-run_qualified_call-requires
unfolding ChangesNames KeepsNames RestoresNames SuitsNames
run_function-run_qualified_call-requires g t c =
    rw c.plain_callee.ensures.same (λ κs lives. (
      omega arith,
      (
        lives.0,
        (
          lives.1,
          (
            rw c.as_slice.ensures (brings (path_of_call c.args.call.now c.args.pos) c.requires.resolves),
            sym c.is_plain.ensures ∙ c.if-not-is_plain.true,
          ),
        ),
      ),
    ))

pub run_function-returns-then-not-is_plain-clause-runs : goal.run_function-returns-then-not-is_plain-clause-runs
run_function-returns-then-not-is_plain-clause-runs g t c =
    (rw (c.plain_callee.ensures.same, c.as_slice.ensures, c.as_str-name.ensures, c.get.ensures) at c.run_qualified_call.ensures.runs)
    c.args.call.now.op_token c.args.call.now.capture_parent_scope c.requires.form

pub run_function-returns-then-not-is_plain-clause-names : goal.run_function-returns-then-not-is_plain-clause-names
run_function-returns-then-not-is_plain-clause-names g t c done =
    rw c.plain_callee.ensures.same at (c.run_qualified_call.ensures.names done)

pub run_function-returns-in-Some-at_once-clause-runs : goal.run_function-returns-in-Some-at_once-clause-runs
run_function-returns-in-Some-at_once-clause-runs g t c =
    rw c.plain_callee.ensures.same at (c.in-Some-at_once.ensures.runs (holding c.args.run.now.this))

pub run_function-run_call-requires : goal.run_function-run_call-requires
unfolding ChangesNames KeepsNames RestoresNames SuitsNames
run_function-run_call-requires g t c =
    λ κs lives. (
      omega (arith, rw c.plain_callee.ensures.same at c.call_at_once-at_once.ensures.counts),
      (
        lives.0,
        (
          lives.1,
          rw (← c.parts_of_call.ensures.args)
              (same (rw c.plain_callee.ensures.same at c.call_at_once-at_once.ensures.sight) c.call_at_once-at_once.ensures.names
              (brings (operands_of_call c.args.call.now c.args.pos) c.requires.resolves)),
        ),
      ),
    )

pub run_function-returns-clause-runs : goal.run_function-returns-clause-runs
unfolding Goes
run_function-returns-clause-runs g t c k =
    let rules = under g.H.Host.name_of c.args.self.now g.T.NativeTable.natives in
    begins_call rules c.args.call.now c.args.pos k _ (sym c.is_plain.ensures ∙ c.if-not-is_plain.false) c.requires.form
    ⨾ (rw (
      c.call_at_once-at_once.ensures.left_global c.in_default-at_once.is,
      c.call_at_once-at_once.ensures.left_scope c.in_default-at_once.is,
      c.call_at_once-at_once.ensures.left_table c.in_default-at_once.is,
      c.plain_callee.ensures.same,
      ← c.parts_of_call.ensures.args,
      c.parts_of_call.ensures.name,
    ) at c.run_call.ensures.runs) k

pub run_operator-run_arg-requires : goal.run_operator-run_arg-requires
unfolding ChangesNames KeepsNames RestoresNames SuitsNames
run_operator-run_arg-requires g t c =
    λ κs lives. (omega arith, (lives.0, (lives.1, c.requires.resolves_left)))

pub run_operator-run_arg-requires-2 : goal.run_operator-run_arg-requires-2
unfolding ChangesNames KeepsNames RestoresNames SuitsNames
run_operator-run_arg-requires-2 g t c =
    λ κs lives. (
      omega (arith, c.if-not-run_arg.ensures.charges refl),
      (lives.0, (lives.1, still (c.if-not-run_arg.ensures.names refl) c.requires.resolves_right)),
    )

pub run_operator-operate_on_two-called-requires : goal.run_operator-operate_on_two-called-requires
unfolding ChangesNames KeepsNames RestoresNames SuitsNames
run_operator-operate_on_two-called-requires g t c = (omega arith, c.new-operands.ensures)

pub run_operator-returns-then-not-run_arg-clause-runs : goal.run_operator-returns-then-not-run_arg-clause-runs
unfolding after Goes
run_operator-returns-then-not-run_arg-clause-runs g t c k =
    let rules = under g.H.Host.name_of c.args.self.now g.T.NativeTable.natives in
    opens_binary rules c.args.call.now c.args.token c.args.left.now c.args.right.now c.args.pos k _ c.requires.fast c.requires.token
    c.requires.args
    ⨾ c.if-not-run_arg.ensures.runs (LeftOperand _ _ _ ∷ k)
    ⨾ next here

pub run_operator-returns-then-not-flatten_at-clause-runs : goal.run_operator-returns-then-not-flatten_at-clause-runs
unfolding after Goes
run_operator-returns-then-not-flatten_at-clause-runs g t c k =
    let rules = under g.H.Host.name_of c.args.self.now g.T.NativeTable.natives in
    opens_binary rules c.args.call.now c.args.token c.args.left.now c.args.right.now c.args.pos k _ c.requires.fast c.requires.token
    c.requires.args
    ⨾ c.if-not-run_arg.ensures.runs (LeftOperand _ _ _ ∷ k)
    ⨾ flat_fails rules _ _ k _ _ (LeftOperand _ _ _) refl c.if-not-flatten_at.ensures.exact

pub run_operator-returns-then-not-run_arg-2-clause-runs : goal.run_operator-returns-then-not-run_arg-2-clause-runs
unfolding after Goes
run_operator-returns-then-not-run_arg-2-clause-runs g t c k =
    let rules = under g.H.Host.name_of c.args.self.now g.T.NativeTable.natives in
    opens_binary rules c.args.call.now c.args.token c.args.left.now c.args.right.now c.args.pos k _ c.requires.fast c.requires.token
    c.requires.args
    ⨾ c.if-not-run_arg.ensures.runs (LeftOperand _ _ _ ∷ k)
    ⨾ next (rw (← (c.if-not-flatten_at.ensures.exact tt)) (c.if-not-run_arg-2.ensures.runs
    (RightOperand _ _ _ ∷ k) ⨾ next here))

pub run_operator-returns-then-not-flatten_at-2-clause-runs : goal.run_operator-returns-then-not-flatten_at-2-clause-runs
unfolding after Goes
run_operator-returns-then-not-flatten_at-2-clause-runs g t c k =
    let rules = under g.H.Host.name_of c.args.self.now g.T.NativeTable.natives in
    opens_binary rules c.args.call.now c.args.token c.args.left.now c.args.right.now c.args.pos k _ c.requires.fast c.requires.token
    c.requires.args
    ⨾ c.if-not-run_arg.ensures.runs (LeftOperand _ _ _ ∷ k)
    ⨾ next (rw (← (c.if-not-flatten_at.ensures.exact tt)) (c.if-not-run_arg-2.ensures.runs
    (RightOperand _ _ _ ∷ k)
    ⨾ flat_fails rules _ _ k _ _ (RightOperand _ _ _) refl c.if-not-flatten_at-2.ensures.exact))

pub run_operator-returns-then-operate_known-clause-runs : goal.run_operator-returns-then-operate_known-clause-runs
unfolding after Goes
run_operator-returns-then-operate_known-clause-runs g t c k =
    let rules = under g.H.Host.name_of c.args.self.now g.T.NativeTable.natives in
    let known = sym (rw c.take_value-first.ensures.taken at c.if-operate_known.ensures.known refl) in
    opens_binary rules c.args.call.now c.args.token c.args.left.now c.args.right.now c.args.pos k _ c.requires.fast c.requires.token
    c.requires.args
    ⨾ c.if-not-run_arg.ensures.runs (LeftOperand _ _ _ ∷ k)
    ⨾ next (rw (← (c.if-not-flatten_at.ensures.exact tt)) (c.if-not-run_arg-2.ensures.runs
    (RightOperand _ _ _ ∷ k)
    ⨾ next (rw (← (c.if-not-flatten_at-2.ensures.exact tt))
    (known_goes rules c.args.call.now.name c.args.token c.args.pos c.flatten_at.new.out c.flatten_at-2.new.out
    c.operate_known.new.out k _ known))))

pub run_operator-returns-clause-runs : goal.run_operator-returns-clause-runs
unfolding after Goes
run_operator-returns-clause-runs g t c k =
    let rules = under g.H.Host.name_of c.args.self.now g.T.NativeTable.natives in
    opens_binary rules c.args.call.now c.args.token c.args.left.now c.args.right.now c.args.pos k _ c.requires.fast c.requires.token
    c.requires.args
    ⨾ c.if-not-run_arg.ensures.runs (LeftOperand _ _ _ ∷ k)
    ⨾ next (rw (← (c.if-not-flatten_at.ensures.exact tt)) (c.if-not-run_arg-2.ensures.runs
    (RightOperand _ _ _ ∷ k)
    ⨾ next (rw (← (c.if-not-flatten_at-2.ensures.exact tt))
    ((rw (c.take_value-first.ensures.taken, c.if-operate_known.ensures.same refl) at c.operate_on_two-called.ensures.runs) k))))
    ⨾ c.finish_call-done.ensures.runs k

pub run_arg-returns-in-Some-clause-runs : goal.run_arg-returns-in-Some-clause-runs
run_arg-returns-in-Some-clause-runs g t c =
    c.in-Some.ensures.runs c.args.run.now.scope (holding c.args.run.now.this)

pub run_arg-returns-in-None-clause-runs : goal.run_arg-returns-in-None-clause-runs
unfolding Goes
run_arg-returns-in-None-clause-runs g t c k =
    let rules = under g.H.Host.name_of c.args.self.now g.T.NativeTable.natives in
    let none = still_none _ (sym c.read_literal-in_place.ensures.found ∙ ap is_some c.in-None.is) in
    let runs = rw (c.read_literal-in_place.ensures.left_alone c.in-None.is) at c.run_expr.ensures.runs in
    step_by rules _ _ (Go (core (Eval c.args.arg.now) k (state_in (g.T.NativeTable.state c.args.table.now) c.args.run.now).local))
    (rw none refl) (runs k)

pub run_arg-run_expr-requires : goal.run_arg-run_expr-requires
unfolding ChangesNames KeepsNames RestoresNames SuitsNames
run_arg-run_expr-requires g t c =
    λ κs lives. (
      omega (
        arith,
        ap (λ (global : RunState _). global.num_operations)
            (c.read_literal-in_place.ensures.left_alone c.in-None.is),
      ),
      (lives.0, (lives.1, same c.read_literal-in_place.ensures.sight refl c.requires)),
    )

pub run_unary-returns-clause-names : goal.run_unary-returns-clause-names
unfolding ChangesNames KeepsNames RestoresNames SuitsNames
run_unary-returns-clause-names g t c done = leads_then (c.if-not-run_arg.ensures.names refl)
    (leads_then (stays c.operate_on_one-called.ensures.sight (ap names_in c.operate_on_one-called.ensures.scope))
    (c.finish_call-done.ensures.names done))

pub run_operator-returns-then-operate_known-clause-names : goal.run_operator-returns-then-operate_known-clause-names
unfolding ChangesNames KeepsNames RestoresNames SuitsNames
run_operator-returns-then-operate_known-clause-names g t c done =
    leads_then (c.if-not-run_arg.ensures.names refl) (c.if-not-run_arg-2.ensures.names refl)

pub run_operator-returns-clause-names : goal.run_operator-returns-clause-names
unfolding ChangesNames KeepsNames RestoresNames SuitsNames
run_operator-returns-clause-names g t c done =
    leads_then (leads_then (c.if-not-run_arg.ensures.names refl) (c.if-not-run_arg-2.ensures.names refl))
    (leads_then (stays c.operate_on_two-called.ensures.sight (ap names_in c.operate_on_two-called.ensures.scope))
    (c.finish_call-done.ensures.names done))

pub run_function-returns-in-Some-at_once-clause-names : goal.run_function-returns-in-Some-at_once-clause-names
unfolding ChangesNames KeepsNames RestoresNames SuitsNames
run_function-returns-in-Some-at_once-clause-names g t c done =
    stays (rw c.plain_callee.ensures.same at c.call_at_once-at_once.ensures.sight) c.call_at_once-at_once.ensures.names

pub run_function-returns-clause-names : goal.run_function-returns-clause-names
unfolding ChangesNames KeepsNames RestoresNames SuitsNames
run_function-returns-clause-names g t c done =
    leads_then (stays (rw c.plain_callee.ensures.same at c.call_at_once-at_once.ensures.sight) c.call_at_once-at_once.ensures.names)
    (c.run_call.ensures.names done)

pub run_operation-returns-in-Some-clause-names : goal.run_operation-returns-in-Some-clause-names
unfolding ChangesNames KeepsNames RestoresNames SuitsNames
run_operation-returns-in-Some-clause-names g t c done = stays c.operate_in_place-in_place.ensures.sight refl

pub run_operation-returns-in_default-clause-names : goal.run_operation-returns-in_default-clause-names
unfolding ChangesNames KeepsNames RestoresNames SuitsNames
run_operation-returns-in_default-clause-names g t c done =
    leads_then (stays c.operate_in_place-in_place.ensures.sight refl) (c.run_operator.ensures.names done)

pub run_arg-returns-in-Some-clause-names : goal.run_arg-returns-in-Some-clause-names
unfolding ChangesNames KeepsNames RestoresNames SuitsNames
run_arg-returns-in-Some-clause-names g t c done = stays c.read_literal-in_place.ensures.sight refl

pub run_arg-returns-in-None-clause-names : goal.run_arg-returns-in-None-clause-names
unfolding ChangesNames KeepsNames RestoresNames SuitsNames
run_arg-returns-in-None-clause-names g t c done =
    leads_then (stays c.read_literal-in_place.ensures.sight refl) (c.run_expr.ensures.names done)

pub run_function-call_at_once-at_once-requires : goal.run_function-call_at_once-at_once-requires
unfolding SuitsNames
run_function-call_at_once-at_once-requires g t c = record { resolves = rw c.plain_callee.ensures.same c.requires.resolves }

pub run_operation-operate_in_place-in_place-requires-clause-resolves_left :
    goal.run_operation-operate_in_place-in_place-requires-clause-resolves_left
unfolding SuitsNames
run_operation-operate_in_place-in_place-requires-clause-resolves_left g t c =
    let form = rw c.in-Binary.is at c.form_of.ensures in
    brings (λ frame h. (operands_resolve c.args.call.now c.args.pos c.in-Binary.left.now c.in-Binary.right.now frame form.2 h).0)
    c.requires.resolves

pub run_operation-operate_in_place-in_place-requires-clause-resolves_right :
    goal.run_operation-operate_in_place-in_place-requires-clause-resolves_right
unfolding SuitsNames
run_operation-operate_in_place-in_place-requires-clause-resolves_right g t c =
    let form = rw c.in-Binary.is at c.form_of.ensures in
    brings (λ frame h. (operands_resolve c.args.call.now c.args.pos c.in-Binary.left.now c.in-Binary.right.now frame form.2 h).1)
    c.requires.resolves
