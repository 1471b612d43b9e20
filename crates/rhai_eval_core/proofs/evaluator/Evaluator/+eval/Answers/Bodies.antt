use Rattle.std.proofs.Common.{◌≡◌, false, true, None, Some, length, refl, ap, ◌∙◌, arith}
use Rattle.std.specs.Option.{option_copied}
use Rattle.rhai_state.specs.Scope.{entries_of, names_in}
use Rattle.rhai_lookups.specs.declared.run.RunState.{RunState}
use Rattle.rhai_machine.specs.machine.Memory.{here, ◌⨾◌}
use Rattle.rhai_machine.specs.language.Activations.{NoThis, OwnThis, TheFocus}
use Rattle.rhai_machine.specs.language.Calls.{entry_of}
use Rattle.rhai_machine.specs.language.Frames.{Enter, EnterFunction, ended}
use Rattle.rhai_machine.specs.language.Runs.{Goes}
use Rattle.rhai_machine.specs.language.State.{Held, deeper}
use Rattle.rhai_steps.specs.States.{holding, local_of}
use Rattle.rhai_bodies.specs.Closing.{taken_back}
use Rattle.rhai_bodies.specs.declared.callers.Captured.{Captured}
use Rattle.rhai_context.specs.declared.Context.{Context}
use Rattle.rhai_laws.proofs.KeptLaws.{counted, kept, names_stay}
use Rattle.rhai_steps.specs.OnFocus.{lending}
use Rattle.rhai_eval_steps.specs.Agreement.{ChangesNames, KeepsNames, RestoresNames, SuitsNames, sight_in}
use Rattle.rhai_eval_steps.specs.Bodies.{entered}
use Rattle.rhai_eval_core.specs.States.{under}
use Rattle.rhai_eval_steps.proofs.BodyLemmas.{body_resolves, brings_no_charge, captured_ends, failed_ends, fresh_ends, passed_ends}
use Rattle.rhai_eval_steps.proofs.BodyLemmas.{refused_ends, whole_ends}
use Rattle.rhai_steps.proofs.Agreeing.{stays}
use Rattle.rhai_eval_steps.proofs.NameLemmas.{suits_now}
use Rattle.rhai_eval_steps.proofs.ArgsLeft.{entered_never, entered_not, entered_nothing, entered_so}
use Rattle.rhai_eval_core.proofs.Untold.{unchanged_walk_ends}
use Rattle.rhai_eval_core.proofs.evaluator.Evaluator.+eval.Goals as goal
use Rattle.rhai_context.specs.Ends.{came}
use Rattle.rhai_steps.specs.Agreement.{imports_in, sight_of}
use Rattle.rhai_eval_steps.proofs.SightLemmas.{sight_closed}
use Rattle.rhai_bodies.specs.declared.opening.CallExit.{CallExit}

pub run_body-returns-then-not-charge-clause-runs : goal.run_body-returns-then-not-charge-clause-runs
run_body-returns-then-not-charge-clause-runs g t c scope held object is_fresh scope_is this_is =
    let rules = under g.H.Host.name_of c.args.self.now g.T.NativeTable.natives in
    let e = entered c.args.def.now (option_copied c.args.environ) object is_fresh c.args.restores c.args.args.now c.args.level c.args.pos in
    let table = g.T.NativeTable.state c.args.table.now in
    refused_ends rules e table c.args.run.now.global c.charge.new.global scope held c.args.run.now scope_is this_is _
    (c.if-not-charge.ensures.full refl) (c.if-not-charge.ensures.refused refl) (c.if-not-charge.ensures.same refl)
    (record c.args.run.now { global = c.charge.new.global }) refl

pub run_body-returns-in-Err-clause-runs : goal.run_body-returns-in-Err-clause-runs
run_body-returns-in-Err-clause-runs g t c scope held object is_fresh scope_is this_is =
    let rules = under g.H.Host.name_of c.args.self.now g.T.NativeTable.natives in
    let e = entered c.args.def.now (option_copied c.args.environ) object is_fresh c.args.restores c.args.args.now c.args.level c.args.pos in
    let table = g.T.NativeTable.state c.args.table.now in
    rw (c.stop.ensures.stopped, c.stop.ensures.told)
    (failed_ends rules e table c.args.run.now.global c.charge.new.global scope held c.args.run.now scope_is this_is
    (c.if-not-charge.ensures.room refl)
    (c.if-not-charge.ensures.charged refl) c.in-Err.error
    (rw c.def-def.ensures.value at c.in-Err.ensures.refused)
    (rw c.def-def.ensures.value at c.in-Err.ensures.ran_out)
    (record c.args.run.now { global = c.open_function.new.global; scope = c.open_function.new.scope })
    c.in-Err.ensures.same_state c.in-Err.ensures.same_scope refl)

pub run_body-run_stmt_block-done-requires : goal.run_body-run_stmt_block-done-requires
unfolding ChangesNames KeepsNames RestoresNames SuitsNames
run_body-run_stmt_block-done-requires g t c =
    let resolved = body_resolves c.args.def.now c.args.args.now (entries_of c.args.run.now.scope) (entries_of c.open_function.new.scope)
    (imports_in c.open_function.new.global.lists.1) c.def-def.ensures.resolves (rw (c.in-Ok-Some.field-0-is, c.def-def.ensures.value) at
    c.in-Ok-Some.ensures.variables) in
    λ κs lives. (
      omega (
        arith,
        c.if-not-charge.ensures.room refl,
        ap (λ (global : RunState _). global.num_operations) (c.if-not-charge.ensures.charged refl),
        brings_no_charge (option_copied c.args.environ) c.args.level c.charge.new.global c.open_function.new.global
            (rw c.in-Ok-Some.field-0-is at c.in-Ok-Some.ensures.state),
      ),
      (lives.0, (lives.1, suits_now _ _ (rw (c.statements_of-statements.ensures, c.def-def.ensures.value) resolved))),
    )

pub run_body-returns-in-Ok-None-clause-runs : goal.run_body-returns-in-Ok-None-clause-runs
run_body-returns-in-Ok-None-clause-runs g t c scope held object is_fresh scope_is this_is =
    let rules = under g.H.Host.name_of c.args.self.now g.T.NativeTable.natives in
    let e = entered c.args.def.now (option_copied c.args.environ) object is_fresh c.args.restores c.args.args.now c.args.level c.args.pos in
    let table = g.T.NativeTable.state c.args.table.now in
    rw c.put_unit.ensures
    (passed_ends rules e table c.args.run.now.global c.charge.new.global scope held c.args.run.now scope_is this_is
    (c.if-not-charge.ensures.room refl)
    (c.if-not-charge.ensures.charged refl)
    c.in-Ok-None.ensures.not_deep (rw c.def-def.ensures.value at c.in-Ok-None.ensures.not_full)
    (rw (c.in-Ok-None.field-0-is, c.def-def.ensures.value) at c.in-Ok-None.ensures.no_body)
    (record c.args.run.now { global = c.open_function.new.global; scope = c.open_function.new.scope })
    (rw c.in-Ok-None.field-0-is at c.in-Ok-None.ensures.same_state) (rw c.in-Ok-None.field-0-is at c.in-Ok-None.ensures.same_scope) refl)

pub run_body-returns-in-Ok-Some-clause-charges : goal.run_body-returns-in-Ok-Some-clause-charges
run_body-returns-in-Ok-Some-clause-charges g t c done =
    let rules = under g.H.Host.name_of c.args.self.now g.T.NativeTable.natives in
    let outcome = came c.run_stmt_block-done.result c.run_stmt_block-done.new.run.value c.run_stmt_block-done.new.run.error in
    omega (
      arith,
      ap (λ (global : RunState _). global.num_operations) (c.if-not-charge.ensures.charged refl),
      brings_no_charge (option_copied c.args.environ) c.args.level c.charge.new.global c.open_function.new.global
          (rw c.in-Ok-Some.field-0-is at c.in-Ok-Some.ensures.state),
      counted rules (Enter c.statements_of-statements.result.now c.args.restores) (ended outcome) _ _ c.run_stmt_block-done.ensures.runs,
      ap (λ (global : RunState _). global.num_operations) c.close_body.ensures.state,
    )

pub run_body-returns-in-Ok-Some-clause-runs : goal.run_body-returns-in-Ok-Some-clause-runs
run_body-returns-in-Ok-Some-clause-runs g t c scope held object is_fresh scope_is this_is =
    let rules = under g.H.Host.name_of c.args.self.now g.T.NativeTable.natives in
    let e = entered c.args.def.now (option_copied c.args.environ) object is_fresh c.args.restores c.args.args.now c.args.level c.args.pos in
    let table = g.T.NativeTable.state c.args.table.now in
    let outcome = came c.run_stmt_block-done.result c.run_stmt_block-done.new.run.value c.run_stmt_block-done.new.run.error in
    whole_ends rules e table c.args.run.now.global c.charge.new.global scope held c.args.run.now scope_is this_is
    (c.if-not-charge.ensures.room refl)
    (c.if-not-charge.ensures.charged refl)
    c.in-Ok-Some.ensures.not_deep (rw c.def-def.ensures.value at c.in-Ok-Some.ensures.not_full)
    (rw (c.in-Ok-Some.field-0-is, c.def-def.ensures.value) at c.in-Ok-Some.ensures.body)
    (record c.args.run.now { global = c.open_function.new.global; scope = c.open_function.new.scope })
    (rw c.in-Ok-Some.field-0-is at c.in-Ok-Some.ensures.state)
    (rw (c.in-Ok-Some.field-0-is, c.def-def.ensures.value) at c.in-Ok-Some.ensures.variables) refl outcome
    (g.T.NativeTable.state c.run_stmt_block-done.new.table) c.run_stmt_block-done.new.run
    (rw (c.statements_of-statements.ensures, c.def-def.ensures.value) at c.run_stmt_block-done.ensures.runs)
    (came c.close_body.result c.close_body.new.out c.close_body.new.place) c.close_body.new.global
    (c.close_body.ensures.state ∙ ap (λ exit. taken_back exit c.run_stmt_block-done.new.run.global)
    (rw c.in-Ok-Some.field-0-is at c.in-Ok-Some.ensures.exit))
    (rw c.def-def.ensures.value at c.close_body.ensures.outcome)

pub run_body-returns-then-not-charge-clause-args : goal.run_body-returns-then-not-charge-clause-args
run_body-returns-then-not-charge-clause-args g t c memory =
    rw (entered_never c.args.self.now.session.limits c.args.run.now.global.num_operations c.args.level
    (length (entries_of c.args.run.now.scope)) c.args.def.now (c.if-not-charge.ensures.full refl)) refl

pub run_body-returns-in-Err-clause-args : goal.run_body-returns-in-Err-clause-args
run_body-returns-in-Err-clause-args g t c memory =
    let has = rw (c.stop.ensures.stopped, c.stop.ensures.told) at memory in
    rw (entered_not c.args.self.now.session.limits c.args.run.now.global.num_operations c.args.level
    (length (entries_of c.args.run.now.scope)) c.args.def.now c.args.pos _
    (rw c.def-def.ensures.value at (c.in-Err.ensures.refused has))) (c.in-Err.ensures.untaken has)

pub run_body-returns-in-Ok-None-clause-args : goal.run_body-returns-in-Ok-None-clause-args
run_body-returns-in-Ok-None-clause-args g t c memory =
    rw (entered_nothing c.args.self.now.session.limits c.args.run.now.global.num_operations c.args.level
    (length (entries_of c.args.run.now.scope)) c.args.def.now
    (rw (c.in-Ok-None.field-0-is, c.def-def.ensures.value) at c.in-Ok-None.ensures.no_body))
    (rw c.in-Ok-None.field-0-is at c.in-Ok-None.ensures.same_args)

pub run_body-returns-in-Ok-Some-clause-args : goal.run_body-returns-in-Ok-Some-clause-args
run_body-returns-in-Ok-Some-clause-args g t c memory =
    rw (entered_so c.args.self.now.session.limits c.args.run.now.global.num_operations c.args.level
    (length (entries_of c.args.run.now.scope)) c.args.def.now (c.if-not-charge.ensures.room refl)
    c.in-Ok-Some.ensures.not_deep (rw c.def-def.ensures.value at c.in-Ok-Some.ensures.not_full)
    (rw (c.in-Ok-Some.field-0-is, c.def-def.ensures.value) at c.in-Ok-Some.ensures.body))
    (rw (c.in-Ok-Some.field-0-is, c.def-def.ensures.value) at c.in-Ok-Some.ensures.left)

-- its arguments

pub enter_captured-returns-clause-runs : goal.enter_captured-returns-clause-runs
enter_captured-returns-clause-runs g t c held =
    let rules = under g.H.Host.name_of c.args.self.now g.T.NativeTable.natives in
    let result = came c.run_body-done.result c.run_body-done.new.run.value c.run_body-done.new.run.error in
    let value_is : c.release.new.run.value ≡ c.run_body-done.new.run.value = ap (λ (r : Context _). r.value) c.release.ensures.run in
    let error_is : c.release.new.run.error ≡ c.run_body-done.new.run.error = ap (λ (r : Context _). r.error) c.release.ensures.run in
    let global_is : c.release.new.run.global ≡ c.run_body-done.new.run.global = ap (λ (r : Context _). r.global) c.release.ensures.run in
    rw (value_is, error_is, global_is)
    (captured_ends rules c.args.function NoThis c.args.args.now c.args.pos c.args.run.now.global c.args.run.now.scope held
    c.body_of-level.result.0.now (option_copied c.body_of-level.result.1) c.body_of-level.result.2
    (g.T.NativeTable.state c.args.table.now)
    (g.T.NativeTable.state c.run_body-done.new.table) c.run_body-done.new.run result c.body_of-level.ensures.def
    c.body_of-level.ensures.environ
    (c.body_of-level.ensures.level ∙ ap (λ (r : Context _). deeper r.global.level) c.capture-captured.ensures.run)
    (rw c.capture-captured.ensures.run at
    (c.run_body-done.ensures.runs c.args.run.now.scope held NoThis false
    (ap (λ (r : Context _). entries_of r.scope) c.capture-captured.ensures.run)
    (ap (λ (r : Context _). r.this) c.capture-captured.ensures.run)))
    c.release.new.run.scope c.capture-captured.result.length
    (ap (λ (kept : Captured _). kept.length) c.capture-captured.ensures.captured) c.release.ensures.scope
    c.run_body-done.new.run.this refl)

pub enter_captured-returns-clause-counts : goal.enter_captured-returns-clause-counts
enter_captured-returns-clause-counts g t c =
    let rules = under g.H.Host.name_of c.args.self.now g.T.NativeTable.natives in
    let result = came c.run_body-done.result c.release.new.run.value c.release.new.run.error in
    counted rules (EnterFunction (entry_of c.args.function NoThis false c.args.args.now c.args.pos
    (local_of c.args.run.now.global c.args.run.now.scope (holding None)))) (ended result) _ _
    (enter_captured-returns-clause-runs g t c (holding None))

pub enter_captured-returns-clause-names : goal.enter_captured-returns-clause-names
unfolding ChangesNames KeepsNames RestoresNames SuitsNames
enter_captured-returns-clause-names g t c done =
    let rules = under g.H.Host.name_of c.args.self.now g.T.NativeTable.natives in
    let result = came c.run_body-done.result c.release.new.run.value c.release.new.run.error in
    stays (ap sight_in c.release.ensures.run ∙ c.run_body-done.ensures.sight refl ∙ ap sight_in c.capture-captured.ensures.run)
    (names_stay rules (EnterFunction (entry_of c.args.function NoThis false c.args.args.now c.args.pos
    (local_of c.args.run.now.global c.args.run.now.scope (holding None)))) (ended result) _ _ refl tt
    (enter_captured-returns-clause-runs g t c (holding None)))

pub enter_fresh-returns-clause-runs : goal.enter_fresh-returns-clause-runs
enter_fresh-returns-clause-runs g t c scope held =
    let rules = under g.H.Host.name_of c.args.self.now g.T.NativeTable.natives in
    let result = came c.run_body-done.result c.run_body-done.new.run.value c.run_body-done.new.run.error in
    let value_is : c.end_fresh.new.run.value ≡ c.run_body-done.new.run.value = ap (λ (r : Context _). r.value) c.end_fresh.ensures in
    let error_is : c.end_fresh.new.run.error ≡ c.run_body-done.new.run.error = ap (λ (r : Context _). r.error) c.end_fresh.ensures in
    rw (value_is, error_is)
    (fresh_ends rules c.args.function NoThis c.args.args.now c.args.pos c.args.run.now.global scope held c.body_of-level.result.0.now
    (option_copied c.body_of-level.result.1) c.body_of-level.result.2 c.put_aside-aside.new.run.global
    (g.T.NativeTable.state c.args.table.now) (g.T.NativeTable.state c.run_body-done.new.table) c.run_body-done.new.run
    result c.body_of-level.ensures.def c.body_of-level.ensures.environ
    (c.body_of-level.ensures.level ∙ ap (λ (r : Context _). deeper r.global.level) c.put_aside-aside.ensures.rest)
    (ap (λ (r : Context _). r.global) c.put_aside-aside.ensures.rest)
    (c.run_body-done.ensures.runs scope held NoThis true c.put_aside-aside.ensures.scope c.put_aside-aside.ensures.this)
    c.end_fresh.new.run.global c.run_body-done.new.run.this (ap (λ (r : Context _). r.global) c.end_fresh.ensures) refl)

pub enter_fresh-returns-clause-counts : goal.enter_fresh-returns-clause-counts
enter_fresh-returns-clause-counts g t c =
    let rules = under g.H.Host.name_of c.args.self.now g.T.NativeTable.natives in
    let result = came c.run_body-done.result c.end_fresh.new.run.value c.end_fresh.new.run.error in
    counted rules (EnterFunction (entry_of c.args.function NoThis true c.args.args.now c.args.pos
    (local_of c.args.run.now.global c.args.run.now.scope (holding None)))) (ended result) _ _
    (enter_fresh-returns-clause-runs g t c c.args.run.now.scope (holding None))

pub finish_call-returns-in-Ended-clause-runs : goal.finish_call-returns-in-Ended-clause-runs
unfolding Goes
finish_call-returns-in-Ended-clause-runs g t c k =
    rw (c.in-Ended.is, c.settle.ensures) here

pub finish_call-returns-then-is_fresh-clause-runs : goal.finish_call-returns-then-is_fresh-clause-runs
unfolding Goes
finish_call-returns-then-is_fresh-clause-runs g t c k =
    rw (c.in-Enters.is, c.if-is_fresh.true, c.enter_fresh.ensures.scope, c.enter_fresh.ensures.this)
    ((rw c.as_mut_slice-values.ensures.value at c.enter_fresh.ensures.runs) c.args.run.now.scope (holding c.args.run.now.this) k)

pub finish_call-returns-else-is_fresh-clause-runs : goal.finish_call-returns-else-is_fresh-clause-runs
unfolding Goes
finish_call-returns-else-is_fresh-clause-runs g t c k =
    rw (c.in-Enters.is, c.if-is_fresh.false, c.enter_captured.ensures.this)
    ((rw c.as_mut_slice-values.ensures.value at c.enter_captured.ensures.runs) (holding c.args.run.now.this) k)

pub enter_on_focus-returns-clause-runs : goal.enter_on_focus-returns-clause-runs
enter_on_focus-returns-clause-runs g t c scope held =
    let rules = under g.H.Host.name_of c.args.self.now g.T.NativeTable.natives in
    let result = came c.run_body-done.result c.run_body-done.new.run.value c.run_body-done.new.run.error in
    let value_is : c.leave_focus.new.run.value ≡ c.run_body-done.new.run.value = ap (λ (r : Context _). r.value)
    c.leave_focus.ensures.run in
    let error_is : c.leave_focus.new.run.error ≡ c.run_body-done.new.run.error = ap (λ (r : Context _). r.error)
    c.leave_focus.ensures.run in
    let focus = c.args.focus.now in
    let level_is = c.body_of-level.ensures.level ∙ ap (λ (r : Context _). deeper r.global.level) c.lend_focus-aside.ensures.rest in
    let global_is = ap (λ (r : Context _). r.global) c.lend_focus-aside.ensures.rest in
    let table = g.T.NativeTable.state c.args.table.now in
    let left = g.T.NativeTable.state c.run_body-done.new.table in
    let run = c.run_body-done.new.run in
    let runs = fresh_ends rules c.args.function TheFocus c.args.args.now c.args.pos c.args.run.now.global scope (lending held focus)
    c.body_of-level.result.0.now (option_copied c.body_of-level.result.1) c.body_of-level.result.2 c.lend_focus-aside.new.run.global
    table left run result c.body_of-level.ensures.def c.body_of-level.ensures.environ level_is global_is
    (c.run_body-done.ensures.runs scope (lending held focus) TheFocus true c.lend_focus-aside.ensures.scope
    c.lend_focus-aside.ensures.this) c.leave_focus.new.run.global run.this
    (ap (λ (r : Context _). r.global) c.leave_focus.ensures.run) refl in
    let owned : Held _ = record { this = Some focus; focus = None } in
    let owns = fresh_ends rules c.args.function OwnThis c.args.args.now c.args.pos c.args.run.now.global scope owned
    c.body_of-level.result.0.now (option_copied c.body_of-level.result.1) c.body_of-level.result.2 c.lend_focus-aside.new.run.global
    table left run result c.body_of-level.ensures.def c.body_of-level.ensures.environ level_is global_is
    (c.run_body-done.ensures.runs scope owned OwnThis true c.lend_focus-aside.ensures.scope c.lend_focus-aside.ensures.this)
    run.global run.this refl refl in
    let bound = (kept rules (EnterFunction (entry_of c.args.function OwnThis true c.args.args.now c.args.pos (local_of
    c.args.run.now.global scope owned)))
    (ended result) _ _ tt owns).bound in
    rw (value_is, error_is) (rw (c.leave_focus.ensures.leaves bound) at runs)

pub enter_on_focus-returns-clause-counts : goal.enter_on_focus-returns-clause-counts
enter_on_focus-returns-clause-counts g t c =
    let rules = under g.H.Host.name_of c.args.self.now g.T.NativeTable.natives in
    let result = came c.run_body-done.result c.leave_focus.new.run.value c.leave_focus.new.run.error in
    counted rules (EnterFunction (entry_of c.args.function TheFocus true c.args.args.now c.args.pos
    (local_of c.args.run.now.global c.args.run.now.scope (lending (holding None) c.args.focus.now)))) (ended result) _ _
    (enter_on_focus-returns-clause-runs g t c c.args.run.now.scope (holding None))

pub run_method-returns-in-Ended-clause-runs : goal.run_method-returns-in-Ended-clause-runs
unfolding Goes
run_method-returns-in-Ended-clause-runs g t c scope held k =
    rw c.settle_changed.ensures ((rw c.in-Ended.is at (c.call_method.ensures.runs scope held)) k)

pub run_method-returns-in-OnTarget-clause-runs : goal.run_method-returns-in-OnTarget-clause-runs
unfolding Goes
run_method-returns-in-OnTarget-clause-runs g t c scope held k =
    rw (
      c.unchanged.ensures,
      unchanged_walk_ends c.enter_on_focus-done.result c.enter_on_focus-done.new.run.value
          c.enter_on_focus-done.new.run.error,
    )
    ((rw (c.in-Enters.is, c.in-OnTarget.is) at (c.call_method.ensures.runs scope held)) k
    ⨾ (rw c.as_mut_slice-values.ensures.value at c.enter_on_focus-done.ensures.runs) scope held k)

pub run_method-returns-in-Alone-clause-runs : goal.run_method-returns-in-Alone-clause-runs
unfolding Goes
run_method-returns-in-Alone-clause-runs g t c scope held k =
    rw (
      c.unchanged-in-Alone.ensures,
      unchanged_walk_ends c.enter_fresh-done.result c.enter_fresh-done.new.run.value
          c.enter_fresh-done.new.run.error,
    )
    ((rw (c.in-Enters.is, c.in-Alone.is) at (c.call_method.ensures.runs scope held)) k
    ⨾ (rw c.as_mut_slice-values-in-Alone.ensures.value at c.enter_fresh-done.ensures.runs) scope
    (lending held c.call_method.new.target) k)

-- what a checker knows of the state is put back

pub run_body-returns-then-not-charge-clause-sight : goal.run_body-returns-then-not-charge-clause-sight
run_body-returns-then-not-charge-clause-sight g t c restores = c.if-not-charge.ensures.sight

pub run_body-returns-in-Err-clause-sight : goal.run_body-returns-in-Err-clause-sight
run_body-returns-in-Err-clause-sight g t c restores = ap sight_of c.in-Err.ensures.same_state ∙ c.if-not-charge.ensures.sight

pub run_body-returns-in-Ok-None-clause-sight : goal.run_body-returns-in-Ok-None-clause-sight
run_body-returns-in-Ok-None-clause-sight g t c restores =
    ap sight_of (rw c.in-Ok-None.field-0-is at c.in-Ok-None.ensures.same_state) ∙ c.if-not-charge.ensures.sight

pub run_body-returns-in-Ok-Some-clause-sight : goal.run_body-returns-in-Ok-Some-clause-sight
unfolding RestoresNames
run_body-returns-in-Ok-Some-clause-sight g t c restores =
    let exit_is = rw c.in-Ok-Some.field-0-is at c.in-Ok-Some.ensures.exit in
    sight_closed c.charge.new.global c.open_function.new.global c.run_stmt_block-done.new.run.global c.close_body.new.global
    (option_copied c.args.environ) c.args.level c.in-Ok-Some.exit (ap (λ (exit : CallExit). exit.imports_length) exit_is)
    (rw c.in-Ok-Some.field-0-is at c.in-Ok-Some.ensures.state) (c.run_stmt_block-done.ensures.restores restores).sight
    c.close_body.ensures.state ∙ c.if-not-charge.ensures.sight

pub enter_fresh-returns-clause-sight : goal.enter_fresh-returns-clause-sight
enter_fresh-returns-clause-sight g t c =
    ap sight_in c.end_fresh.ensures ∙ c.run_body-done.ensures.sight refl ∙ ap sight_in c.put_aside-aside.ensures.rest

pub enter_on_focus-returns-clause-sight : goal.enter_on_focus-returns-clause-sight
enter_on_focus-returns-clause-sight g t c =
    ap sight_in c.leave_focus.ensures.run ∙ c.run_body-done.ensures.sight refl ∙ ap sight_in c.lend_focus-aside.ensures.rest

pub finish_call-returns-in-Ended-clause-names : goal.finish_call-returns-in-Ended-clause-names
unfolding ChangesNames KeepsNames RestoresNames SuitsNames
finish_call-returns-in-Ended-clause-names g t c done = stays refl refl

pub finish_call-returns-then-is_fresh-clause-names : goal.finish_call-returns-then-is_fresh-clause-names
unfolding ChangesNames KeepsNames RestoresNames SuitsNames
finish_call-returns-then-is_fresh-clause-names g t c done = stays c.enter_fresh.ensures.sight (ap names_in c.enter_fresh.ensures.scope)
