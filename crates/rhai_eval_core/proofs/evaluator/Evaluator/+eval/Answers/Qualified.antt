use Rattle.std.proofs.Common.{refl, arith}
use Rattle.rhai_machine.specs.machine.Memory.{◌⨾◌}
use Rattle.rhai_machine.specs.language.Arguments.{operation_in}
use Rattle.rhai_machine.specs.language.Calls.{behind_path}
use Rattle.rhai_machine.specs.language.Runs.{Goes}
use Rattle.rhai_machine.specs.language.Variables.{path_of}
use Rattle.rhai_operands.proofs.Names.{good_name}
use Rattle.rhai_steps.specs.States.{holding}
use Rattle.rhai_callees.specs.Behind.{last_of, purpose_of}
use Rattle.rhai_callees.proofs.Behind.{before_leads, behind_begins, behind_goes, behind_spent, good_behind}
use Rattle.rhai_calls.specs.Called.{with_args}
use Rattle.rhai_context.specs.Ends.{error_in}
use Rattle.rhai_eval_steps.specs.Agreement.{ChangesNames, KeepsNames, RestoresNames, SuitsNames}
use Rattle.rhai_eval_steps.specs.Calls.{Collects, in_parts}
use Rattle.rhai_steps.proofs.Agreeing.{brings, leads_then, same, stays, still}
use Rattle.rhai_eval_steps.specs.States.{state_in}
use Rattle.rhai_eval_core.specs.States.{under}
use Rattle.rhai_eval_steps.proofs.QualifiedLemmas.{flattened_behind}
use Rattle.rhai_eval_core.proofs.evaluator.Evaluator.+eval.Goals as goal

-- a call behind a path

pub run_qualified_call-run_more_args-requires : goal.run_qualified_call-run_more_args-requires
unfolding ChangesNames KeepsNames RestoresNames SuitsNames
run_qualified_call-run_more_args-requires g t c =
    λ κs lives. (
      omega (arith, c.charge_last.ensures.counts),
      (
        lives.0,
        (
          lives.1,
          (
            omega arith,
            rw (c.split_last_read.ensures.others) (same c.charge_last.ensures.sight refl
                (brings (λ frame. before_leads frame c.args.namespace.now c.args.args.now c.args.run.now.this) c.requires.1.1.1.1.0)),
          ),
        ),
      ),
    )

pub run_qualified_call-call_behind-called-requires : goal.run_qualified_call-call_behind-called-requires
unfolding ChangesNames KeepsNames RestoresNames SuitsNames
run_qualified_call-call_behind-called-requires g t c = (
  omega arith,
  rw (c.split_last_read.ensures.last)
      (still (leads_then (stays c.charge_last.ensures.sight refl) (c.if-not-run_more_args.ensures.names refl))
      (brings (λ frame. good_behind frame (λ e offset name namespace pos. good_name e offset name namespace pos frame)
      c.args.namespace.now c.args.args.now c.args.run.now.this) c.requires.1.1.1.1.0)),
)

pub run_qualified_call-returns-then-not-charge_last-clause-runs : goal.run_qualified_call-returns-then-not-charge_last-clause-runs
unfolding Goes
run_qualified_call-returns-then-not-charge_last-clause-runs g t c token captures other k =
    let rules = under g.H.Host.name_of c.args.self.now g.T.NativeTable.natives in
    let call = in_parts c.args.namespace.now c.args.name.now c.args.args.now token captures in
    rw (c.if-not-charge_last.ensures.same refl)
    (behind_spent rules (g.T.NativeTable.state c.args.table.now) c.args.run.now.global c.args.run.now.scope (holding c.args.run.now.this)
    call c.args.pos other c.requires.1.1.1.1.1 k (error_in c.charge_last.new.place)
    (rw (c.split_last_read.ensures.last) at (c.if-not-charge_last.ensures.spent refl)))

pub run_qualified_call-returns-then-not-run_more_args-clause-runs : goal.run_qualified_call-returns-then-not-run_more_args-clause-runs
unfolding Goes Collects
run_qualified_call-returns-then-not-run_more_args-clause-runs g t c token captures other k =
    let rules = under g.H.Host.name_of c.args.self.now g.T.NativeTable.natives in
    let call = in_parts c.args.namespace.now c.args.name.now c.args.args.now token captures in
    let operation = operation_in call c.args.pos in
    let how = behind_path (path_of c.args.namespace.now) in
    let last = last_of c.args.args.now c.args.run.now.this in
    behind_begins rules (g.T.NativeTable.state c.args.table.now) c.args.run.now.global c.args.run.now.scope (holding c.args.run.now.this)
    call c.args.pos other c.requires.1.1.1.1.1 k c.charge_last.new.global
    (rw (c.split_last_read.ensures.last) at (c.if-not-charge_last.ensures.charged refl))
    ⨾ (rw (c.new-values.ensures, c.split_last_read.ensures.others) at c.if-not-run_more_args.ensures.collects)
    (purpose_of last operation how) (flattened_behind g.row.H.Denot operation how last) k

pub run_qualified_call-returns-clause-runs : goal.run_qualified_call-returns-clause-runs
unfolding Goes Collects
run_qualified_call-returns-clause-runs g t c token captures other k =
    let rules = under g.H.Host.name_of c.args.self.now g.T.NativeTable.natives in
    let call = in_parts c.args.namespace.now c.args.name.now c.args.args.now token captures in
    let operation = operation_in call c.args.pos in
    let how = behind_path (path_of c.args.namespace.now) in
    let last = last_of c.args.args.now c.args.run.now.this in
    behind_begins rules (g.T.NativeTable.state c.args.table.now) c.args.run.now.global c.args.run.now.scope (holding c.args.run.now.this)
    call c.args.pos other c.requires.1.1.1.1.1 k c.charge_last.new.global
    (rw (c.split_last_read.ensures.last) at (c.if-not-charge_last.ensures.charged refl))
    ⨾ (rw (c.new-values.ensures, c.split_last_read.ensures.others) at c.if-not-run_more_args.ensures.collects)
    (purpose_of last operation how) (flattened_behind g.row.H.Denot operation how last) k
    ⨾ behind_goes rules c.args.self.now.session.offered (refl, refl) (path_of c.args.namespace.now) c.requires.1.1.1.1.1 operation last
    c.run_more_args.new.values (state_in (g.T.NativeTable.state c.run_more_args.new.table) c.run_more_args.new.run)
    (with_args c.call_behind-called.result c.call_behind-called.new.args)
    (rw (c.split_last_read.ensures.last) at c.call_behind-called.ensures) k
    ⨾ c.finish_call-done.ensures.runs k

pub run_qualified_call-returns-clause-names : goal.run_qualified_call-returns-clause-names
unfolding ChangesNames KeepsNames RestoresNames SuitsNames
run_qualified_call-returns-clause-names g t c done =
    leads_then (leads_then (stays c.charge_last.ensures.sight refl) (c.if-not-run_more_args.ensures.names refl))
    (c.finish_call-done.ensures.names done)
