use Rattle.std.proofs.Common.{ap, arith, refl, None}
use Rattle.rhai_lookups.specs.declared.run.RunState.{RunState}
use Rattle.rhai_steps.specs.States.{holding}
use Rattle.rhai_steps.proofs.Agreeing.{brings, leads_then, put_back, same, stays}
use Rattle.rhai_operands.proofs.Names.{both}
use Rattle.rhai_eval_steps.specs.Agreement.{ChangesNames, KeepsNames, RestoresNames, SuitsNames}
use Rattle.rhai_eval_steps.proofs.FormNames.{block_suits}
use Rattle.rhai_eval_steps.proofs.NameLemmas.{expr_suits, holds_of_all}
use Rattle.rhai_tree.specs.declared.expr.Expr.TheOpen as layer
use Rattle.rhai_tree.specs.declared.expr.Expr.TheVariants as exprs
use Rattle.rhai_machine.specs.machine.Point.{after}
use Rattle.rhai_machine.specs.machine.Memory.{next, ◌⨾◌}
use Rattle.rhai_machine.specs.language.Runs.{Goes}
use Rattle.rhai_eval_core.specs.States.{under}
use Rattle.rhai_eval_steps.proofs.Chain.{begins, opens, refuses}
use Rattle.rhai_eval_steps.proofs.Conditions.{tests_by, tests_fail}
use Rattle.rhai_eval_core.proofs.evaluator.Evaluator.+eval.Goals as goal
use Rattle.rhai_tree.specs.declared.expr.Expr.{out-Expr}
use Rattle.rhai_operands.proofs.Forms.{read_runs}
use Rattle.rhai_eval_steps.proofs.AskedReads.{asks_as_read, asks_more}

pub run_expr-returns-then-not-charge_expr-clause-runs : goal.run_expr-returns-then-not-charge_expr-clause-runs
run_expr-returns-then-not-charge_expr-clause-runs g t c =
    let rules = under g.H.Host.name_of c.args.self.now g.T.NativeTable.natives in
    refuses rules _ c.args.run.now.global c.charge_expr.new.global _ _ _ _ _ refl (c.if-not-charge_expr.ensures.full refl)
    (c.if-not-charge_expr.ensures.refused refl) (c.if-not-charge_expr.ensures.same refl) _ refl

pub run_expr-returns-then-not-charge_expr-clause-memory : goal.run_expr-returns-then-not-charge_expr-clause-memory
run_expr-returns-then-not-charge_expr-clause-memory g t c = rw (c.if-not-charge_expr.ensures.refused refl) (λ never. cc)

pub run_expr-returns-in_default-clause-runs : goal.run_expr-returns-in_default-clause-runs
run_expr-returns-in_default-clause-runs g t c =
    let rules = under g.H.Host.name_of c.args.self.now g.T.NativeTable.natives in
    opens rules _ c.args.run.now.global c.charge_expr.new.global _ _ (c.if-not-charge_expr.ensures.room refl)
    (c.if-not-charge_expr.ensures.charged refl) _ _ _ (out-Expr c.args.expr.now)
    (read_runs rules _ c.charge_expr.new.global c.args.run.now.scope (holding c.args.run.now.this) c.args.expr.now _
    c.args.self.now.session.offered (refl, refl) (c.read_expr.ensures.exact None)) refl

pub run_expr-returns-in_default-clause-memory : goal.run_expr-returns-in_default-clause-memory
run_expr-returns-in_default-clause-memory g t c = rw (asks_as_read c.args.expr.now) c.read_expr.ensures.memory

pub run_expr-returns-in_default-clause-plain : goal.run_expr-returns-in_default-clause-plain
run_expr-returns-in_default-clause-plain g t c = rw (asks_as_read c.args.expr.now) c.read_expr.ensures.plain

pub run_expr-returns-in_default-clause-truth : goal.run_expr-returns-in_default-clause-truth
run_expr-returns-in_default-clause-truth g t c = rw (asks_as_read c.args.expr.now) c.read_expr.ensures.truth

pub run_expr-returns-in-Array-clause-runs : goal.run_expr-returns-in-Array-clause-runs
run_expr-returns-in-Array-clause-runs g t c =
    let rules = under g.H.Host.name_of c.args.self.now g.T.NativeTable.natives in
    opens rules _ c.args.run.now.global c.charge_expr.new.global _ _ (c.if-not-charge_expr.ensures.room refl)
    (c.if-not-charge_expr.ensures.charged refl) _ _ _ (layer.Array c.in-Array.items c.in-Array.pos)
    (rw c.as_slice-in-Array.ensures at c.run_array.ensures.runs) (rw (c.in-Array.is, exprs.outs-Array) refl)

pub run_expr-returns-in-Map-clause-runs : goal.run_expr-returns-in-Map-clause-runs
run_expr-returns-in-Map-clause-runs g t c =
    let rules = under g.H.Host.name_of c.args.self.now g.T.NativeTable.natives in
    opens rules _ c.args.run.now.global c.charge_expr.new.global _ _ (c.if-not-charge_expr.ensures.room refl)
    (c.if-not-charge_expr.ensures.charged refl) _ _ _ (layer.Map c.in-Map.entries c.in-Map.field-1 c.in-Map.pos)
    (rw c.as_slice-in-Map.ensures at c.run_map.ensures.runs c.in-Map.field-1) (rw (c.in-Map.is, exprs.outs-Map) refl)

pub run_expr-returns-in-InterpolatedString-clause-runs : goal.run_expr-returns-in-InterpolatedString-clause-runs
run_expr-returns-in-InterpolatedString-clause-runs g t c =
    let rules = under g.H.Host.name_of c.args.self.now g.T.NativeTable.natives in
    opens rules _ c.args.run.now.global c.charge_expr.new.global _ _ (c.if-not-charge_expr.ensures.room refl)
    (c.if-not-charge_expr.ensures.charged refl) _ _ _ (layer.InterpolatedString c.in-InterpolatedString.parts c.in-InterpolatedString.pos)
    (rw c.as_slice-in-InterpolatedString.ensures at c.run_interpolated.ensures.runs) (rw (
      c.in-InterpolatedString.is,
      exprs.outs-InterpolatedString,
    ) refl)

pub run_expr-returns-in-FnCall-clause-runs : goal.run_expr-returns-in-FnCall-clause-runs
run_expr-returns-in-FnCall-clause-runs g t c =
    let rules = under g.H.Host.name_of c.args.self.now g.T.NativeTable.natives in
    opens rules _ c.args.run.now.global c.charge_expr.new.global _ _ (c.if-not-charge_expr.ensures.room refl)
    (c.if-not-charge_expr.ensures.charged refl) _ _ _ _ c.run_fn_call_expr.ensures.runs (rw (c.in-FnCall.is, exprs.outs-FnCall) refl)

pub run_expr-returns-in-And-clause-runs : goal.run_expr-returns-in-And-clause-runs
run_expr-returns-in-And-clause-runs g t c =
    let rules = under g.H.Host.name_of c.args.self.now g.T.NativeTable.natives in
    opens rules _ c.args.run.now.global c.charge_expr.new.global _ _ (c.if-not-charge_expr.ensures.room refl)
    (c.if-not-charge_expr.ensures.charged refl) _ _ _ (layer.And c.in-And.parts c.in-And.field-1)
    (rw c.as_slice-in-And.ensures at c.run_until.ensures.runs c.in-And.field-1) (rw (c.in-And.is, exprs.outs-And) refl)

pub run_expr-returns-in-Or-clause-runs : goal.run_expr-returns-in-Or-clause-runs
run_expr-returns-in-Or-clause-runs g t c =
    let rules = under g.H.Host.name_of c.args.self.now g.T.NativeTable.natives in
    opens rules _ c.args.run.now.global c.charge_expr.new.global _ _ (c.if-not-charge_expr.ensures.room refl)
    (c.if-not-charge_expr.ensures.charged refl) _ _ _ (layer.Or c.in-Or.parts c.in-Or.field-1)
    (rw c.as_slice-in-Or.ensures at c.run_until-in-Or.ensures.runs c.in-Or.field-1) (rw (c.in-Or.is, exprs.outs-Or) refl)

pub run_expr-returns-in-Coalesce-clause-runs : goal.run_expr-returns-in-Coalesce-clause-runs
run_expr-returns-in-Coalesce-clause-runs g t c =
    let rules = under g.H.Host.name_of c.args.self.now g.T.NativeTable.natives in
    opens rules _ c.args.run.now.global c.charge_expr.new.global _ _ (c.if-not-charge_expr.ensures.room refl)
    (c.if-not-charge_expr.ensures.charged refl) _ _ _ (layer.Coalesce c.in-Coalesce.parts c.in-Coalesce.field-1)
    (rw c.as_slice-in-Coalesce.ensures at c.run_coalesce.ensures.runs c.in-Coalesce.field-1) (rw (
      c.in-Coalesce.is,
      exprs.outs-Coalesce,
    ) refl)

pub run_expr-returns-in-Stmt-clause-runs : goal.run_expr-returns-in-Stmt-clause-runs
unfolding after Goes
run_expr-returns-in-Stmt-clause-runs g t c k =
    let rules = under g.H.Host.name_of c.args.self.now g.T.NativeTable.natives in
    begins rules _ c.args.run.now.global c.charge_expr.new.global _ _ (c.if-not-charge_expr.ensures.room refl)
    (c.if-not-charge_expr.ensures.charged refl) _ (layer.Stmt c.in-Stmt.block) (rw (c.in-Stmt.is, exprs.outs-Stmt) refl) k
    ⨾ next ((rw c.as_slice.ensures at c.run_stmt_block.ensures.runs) k)

pub run_expr-returns-in-Stmt-clause-charges : goal.run_expr-returns-in-Stmt-clause-charges
run_expr-returns-in-Stmt-clause-charges g t c done = omega (
  arith,
  c.if-not-charge_expr.ensures.room refl,
  ap (λ (global : RunState _). global.num_operations) (c.if-not-charge_expr.ensures.charged refl),
  c.run_stmt_block.ensures.counts done,
)

pub run_condition-returns-in-Some-clause-runs : goal.run_condition-returns-in-Some-clause-runs
run_condition-returns-in-Some-clause-runs g t c =
    c.in-Some.ensures.runs (holding c.args.run.now.this)

pub run_condition-returns-then-not-run_expr-clause-runs : goal.run_condition-returns-then-not-run_expr-clause-runs
run_condition-returns-then-not-run_expr-clause-runs g t c =
    let rules = under g.H.Host.name_of c.args.self.now g.T.NativeTable.natives in
    tests_fail rules c.args.test.now _ _ _ (rw (c.holds_at_once.ensures.left_alone c.in-None.is) at c.if-not-run_expr.ensures.runs)

pub run_condition-returns-then-not-run_expr-clause-memory : goal.run_condition-returns-then-not-run_expr-clause-memory
run_condition-returns-then-not-run_expr-clause-memory g t c none full =
    asks_more c.args.test.now (c.if-not-run_expr.ensures.memory full)

pub run_condition-returns-else-not-run_expr-clause-runs : goal.run_condition-returns-else-not-run_expr-clause-runs
run_condition-returns-else-not-run_expr-clause-runs g t c =
    let rules = under g.H.Host.name_of c.args.self.now g.T.NativeTable.natives in
    tests_by rules c.args.test.now c.run_expr.new.run.value _ _ _
    (rw (c.holds_at_once.ensures.left_alone c.in-None.is) at c.if-not-run_expr.ensures.runs)
    c.truth_left.ensures.exact

-- what the parts of an expression suit

pub run_expr-run_fn_call_expr-requires : goal.run_expr-run_fn_call_expr-requires
unfolding ChangesNames KeepsNames RestoresNames SuitsNames
run_expr-run_fn_call_expr-requires g t c =
    let suits = expr_suits c.args.expr.now (layer.Expr::FnCall c.in-FnCall.call c.in-FnCall.pos)
    (rw (c.in-FnCall.is, exprs.outs-FnCall) refl)
    c.charge_expr.ensures.sight c.requires.resolves in
    λ κs lives. (
      omega (
        arith,
        (c.if-not-charge_expr.ensures.room refl),
        ap (λ (global : RunState _). global.num_operations) (c.if-not-charge_expr.ensures.charged refl),
      ),
      (lives.0, (lives.1, suits)),
    )

pub run_expr-run_stmt_block-requires : goal.run_expr-run_stmt_block-requires
unfolding ChangesNames KeepsNames RestoresNames SuitsNames
run_expr-run_stmt_block-requires g t c =
    let suits = expr_suits c.args.expr.now (layer.Stmt c.in-Stmt.block) (rw (c.in-Stmt.is, exprs.outs-Stmt) refl)
    c.charge_expr.ensures.sight c.requires.resolves in
    λ κs lives. (
      omega (
        arith,
        (c.if-not-charge_expr.ensures.room refl),
        ap (λ (global : RunState _). global.num_operations) (c.if-not-charge_expr.ensures.charged refl),
      ),
      (lives.0, (lives.1, rw c.as_slice.ensures (block_suits c.in-Stmt.block suits))),
    )

pub run_expr-run_until-requires : goal.run_expr-run_until-requires
unfolding ChangesNames KeepsNames RestoresNames SuitsNames
run_expr-run_until-requires g t c =
    let suits = expr_suits c.args.expr.now (layer.And c.in-And.parts c.in-And.field-1) (rw (c.in-And.is, exprs.outs-And) refl)
    c.charge_expr.ensures.sight c.requires.resolves in
    λ κs lives. (
      omega (
        arith,
        (c.if-not-charge_expr.ensures.room refl),
        ap (λ (global : RunState _). global.num_operations) (c.if-not-charge_expr.ensures.charged refl),
      ),
      (lives.0, (lives.1, rw c.as_slice-in-And.ensures suits)),
    )

pub run_expr-run_until-requires-in-Or : goal.run_expr-run_until-requires-in-Or
unfolding ChangesNames KeepsNames RestoresNames SuitsNames
run_expr-run_until-requires-in-Or g t c =
    let suits = expr_suits c.args.expr.now (layer.Or c.in-Or.parts c.in-Or.field-1) (rw (c.in-Or.is, exprs.outs-Or) refl)
    c.charge_expr.ensures.sight c.requires.resolves in
    λ κs lives. (
      omega (
        arith,
        (c.if-not-charge_expr.ensures.room refl),
        ap (λ (global : RunState _). global.num_operations) (c.if-not-charge_expr.ensures.charged refl),
      ),
      (lives.0, (lives.1, rw c.as_slice-in-Or.ensures suits)),
    )

pub run_expr-run_coalesce-requires : goal.run_expr-run_coalesce-requires
unfolding ChangesNames KeepsNames RestoresNames SuitsNames
run_expr-run_coalesce-requires g t c =
    let suits = expr_suits c.args.expr.now (layer.Coalesce c.in-Coalesce.parts c.in-Coalesce.field-1)
    (rw (c.in-Coalesce.is, exprs.outs-Coalesce) refl)
    c.charge_expr.ensures.sight c.requires.resolves in
    λ κs lives. (
      omega (
        arith,
        (c.if-not-charge_expr.ensures.room refl),
        ap (λ (global : RunState _). global.num_operations) (c.if-not-charge_expr.ensures.charged refl),
      ),
      (lives.0, (lives.1, rw c.as_slice-in-Coalesce.ensures suits)),
    )

pub run_expr-run_array-requires : goal.run_expr-run_array-requires
unfolding ChangesNames KeepsNames RestoresNames SuitsNames
run_expr-run_array-requires g t c =
    let suits = expr_suits c.args.expr.now (layer.Array c.in-Array.items c.in-Array.pos) (rw (c.in-Array.is, exprs.outs-Array) refl)
    c.charge_expr.ensures.sight c.requires.resolves in
    λ κs lives. (
      omega (
        arith,
        (c.if-not-charge_expr.ensures.room refl),
        ap (λ (global : RunState _). global.num_operations) (c.if-not-charge_expr.ensures.charged refl),
      ),
      (lives.0, (lives.1, rw c.as_slice-in-Array.ensures suits)),
    )

pub run_expr-run_map-requires : goal.run_expr-run_map-requires
unfolding ChangesNames KeepsNames RestoresNames SuitsNames
run_expr-run_map-requires g t c =
    let suits = expr_suits c.args.expr.now (layer.Map c.in-Map.entries c.in-Map.field-1 c.in-Map.pos)
    (rw (c.in-Map.is, exprs.outs-Map) refl)
    c.charge_expr.ensures.sight c.requires.resolves in
    λ κs lives. (
      omega (
        arith,
        (c.if-not-charge_expr.ensures.room refl),
        ap (λ (global : RunState _). global.num_operations) (c.if-not-charge_expr.ensures.charged refl),
      ),
      (lives.0, (lives.1, rw c.as_slice-in-Map.ensures (brings (λ frame h. (both _ _ h).1) suits))),
    )

pub run_expr-run_interpolated-requires : goal.run_expr-run_interpolated-requires
unfolding ChangesNames KeepsNames RestoresNames SuitsNames
run_expr-run_interpolated-requires g t c =
    let suits = expr_suits c.args.expr.now (layer.InterpolatedString c.in-InterpolatedString.parts c.in-InterpolatedString.pos)
    (rw (c.in-InterpolatedString.is, exprs.outs-InterpolatedString) refl)
    c.charge_expr.ensures.sight c.requires.resolves in
    λ κs lives. (
      omega (
        arith,
        (c.if-not-charge_expr.ensures.room refl),
        ap (λ (global : RunState _). global.num_operations) (c.if-not-charge_expr.ensures.charged refl),
      ),
      (lives.0, (lives.1, rw c.as_slice-in-InterpolatedString.ensures suits)),
    )

pub run_expr-read_expr-requires : goal.run_expr-read_expr-requires
unfolding ChangesNames KeepsNames RestoresNames SuitsNames
run_expr-read_expr-requires g t c = same c.charge_expr.ensures.sight refl c.requires.resolves

pub run_condition-run_expr-requires : goal.run_condition-run_expr-requires
unfolding ChangesNames KeepsNames RestoresNames SuitsNames
run_condition-run_expr-requires g t c =
    λ κs lives. (
      omega (arith, ap (λ (global : RunState _). global.num_operations) (c.holds_at_once.ensures.left_alone c.in-None.is)),
      (lives.0, (lives.1, same c.holds_at_once.ensures.sight refl c.requires.resolves)),
    )

pub run_expr-returns-in-FnCall-clause-names : goal.run_expr-returns-in-FnCall-clause-names
unfolding ChangesNames KeepsNames RestoresNames SuitsNames
run_expr-returns-in-FnCall-clause-names g t c done =
    leads_then (stays c.charge_expr.ensures.sight refl) (c.run_fn_call_expr.ensures.names done)

pub run_expr-returns-in-And-clause-names : goal.run_expr-returns-in-And-clause-names
unfolding ChangesNames KeepsNames RestoresNames SuitsNames
run_expr-returns-in-And-clause-names g t c done =
    leads_then (stays c.charge_expr.ensures.sight refl) (c.run_until.ensures.names done)

pub run_expr-returns-in-Or-clause-names : goal.run_expr-returns-in-Or-clause-names
unfolding ChangesNames KeepsNames RestoresNames SuitsNames
run_expr-returns-in-Or-clause-names g t c done =
    leads_then (stays c.charge_expr.ensures.sight refl) (c.run_until-in-Or.ensures.names done)

pub run_expr-returns-in-Coalesce-clause-names : goal.run_expr-returns-in-Coalesce-clause-names
unfolding ChangesNames KeepsNames RestoresNames SuitsNames
run_expr-returns-in-Coalesce-clause-names g t c done =
    leads_then (stays c.charge_expr.ensures.sight refl) (c.run_coalesce.ensures.names done)

pub run_expr-returns-in-Array-clause-names : goal.run_expr-returns-in-Array-clause-names
unfolding ChangesNames KeepsNames RestoresNames SuitsNames
run_expr-returns-in-Array-clause-names g t c done =
    leads_then (stays c.charge_expr.ensures.sight refl) (c.run_array.ensures.names done)

pub run_expr-returns-in-Map-clause-names : goal.run_expr-returns-in-Map-clause-names
unfolding ChangesNames KeepsNames RestoresNames SuitsNames
run_expr-returns-in-Map-clause-names g t c done =
    leads_then (stays c.charge_expr.ensures.sight refl) (c.run_map.ensures.names done)

pub run_expr-returns-in-InterpolatedString-clause-names : goal.run_expr-returns-in-InterpolatedString-clause-names
unfolding ChangesNames KeepsNames RestoresNames SuitsNames
run_expr-returns-in-InterpolatedString-clause-names g t c done =
    leads_then (stays c.charge_expr.ensures.sight refl) (c.run_interpolated.ensures.names done)

pub run_expr-returns-in-Dot-clause-names : goal.run_expr-returns-in-Dot-clause-names
unfolding ChangesNames KeepsNames RestoresNames SuitsNames
run_expr-returns-in-Dot-clause-names g t c done =
    leads_then (stays c.charge_expr.ensures.sight refl) (c.read_chain.ensures.names done)

pub run_expr-returns-in-Index-clause-names : goal.run_expr-returns-in-Index-clause-names
unfolding ChangesNames KeepsNames RestoresNames SuitsNames
run_expr-returns-in-Index-clause-names g t c done =
    leads_then (stays c.charge_expr.ensures.sight refl) (c.read_chain-in-Index.ensures.names done)

pub run_expr-returns-in-Stmt-clause-names : goal.run_expr-returns-in-Stmt-clause-names
unfolding ChangesNames KeepsNames RestoresNames SuitsNames
run_expr-returns-in-Stmt-clause-names g t c done =
    leads_then (stays c.charge_expr.ensures.sight refl) (put_back (c.run_stmt_block.ensures.restores refl))

pub run_expr-returns-in_default-clause-names : goal.run_expr-returns-in_default-clause-names
unfolding ChangesNames KeepsNames RestoresNames SuitsNames
run_expr-returns-in_default-clause-names g t c done = stays c.charge_expr.ensures.sight refl

pub run_condition-returns-in-Some-clause-names : goal.run_condition-returns-in-Some-clause-names
unfolding ChangesNames KeepsNames RestoresNames SuitsNames
run_condition-returns-in-Some-clause-names g t c = holds_of_all _ (stays c.holds_at_once.ensures.sight refl)

pub run_condition-returns-else-not-run_expr-clause-names : goal.run_condition-returns-else-not-run_expr-clause-names
unfolding ChangesNames KeepsNames RestoresNames SuitsNames
run_condition-returns-else-not-run_expr-clause-names g t c =
    holds_of_all _ (leads_then (stays c.holds_at_once.ensures.sight refl) (c.if-not-run_expr.ensures.names refl))

pub run_condition-holds_at_once-requires : goal.run_condition-holds_at_once-requires
unfolding SuitsNames
run_condition-holds_at_once-requires g t c = c.requires.resolves
