use Rattle.std.proofs.Common.{None, ◌∙◌, ap, arith, refl, true}
use Rattle.rhai_state.specs.Scope.{entries_of, names_in, scope_of}
use Rattle.rhai_lookups.specs.declared.run.RunState.{RunState}
use Rattle.rhai_machine.specs.language.Activations.{NoThis}
use Rattle.rhai_machine.specs.language.Frames.{Enter, ended}
use Rattle.rhai_machine.specs.language.State.{deeper}
use Rattle.rhai_steps.specs.States.{holding}
use Rattle.rhai_bodies.specs.Closing.{taken_back}
use Rattle.rhai_bodies.specs.Opening.{entered_global}
use Rattle.rhai_context.specs.declared.Context.{Context}
use Rattle.rhai_context.specs.Ends.{came, error_in}
use Rattle.rhai_laws.proofs.KeptLaws.{counted}
use Rattle.rhai_eval_steps.specs.Agreement.{ChangesNames, KeepsNames, RestoresNames, SuitsNames, sight_in}
use Rattle.rhai_eval_steps.specs.Bodies.{entered}
use Rattle.rhai_eval_steps.specs.States.{names}
use Rattle.rhai_eval_core.specs.States.{under}
use Rattle.rhai_eval_steps.proofs.BodyLemmas.{early_ends, passed_charged, was_charged, whole_ends}
use Rattle.rhai_eval_steps.proofs.Chain.{drop_all, drop_item}
use Rattle.rhai_eval_steps.proofs.NameLemmas.{part_resolves, suits_now}
use Rattle.rhai_steps.proofs.Agreeing.{brings, leads_then, stays, still}
use Rattle.rhai_eval_steps.proofs.PlainLemmas.{filling_begins, filling_ends, filling_fails, filling_grows, filling_stops, has_room}
use Rattle.rhai_eval_steps.proofs.PlainLemmas.{entered_resolves, plain_ends, plain_fails, plain_stops}
use Rattle.rhai_eval_core.proofs.evaluator.Evaluator.+eval.Goals as goal
use Rattle.rhai_steps.specs.Agreement.{imports_in}
use Rattle.rhai_eval_steps.proofs.SightLemmas.{sight_closed}
use Rattle.rhai_bodies.specs.declared.opening.CallExit.{CallExit}

-- a call whose function is known

pub run_plain_call-run_parameters-requires : goal.run_plain_call-run_parameters-requires
unfolding ChangesNames KeepsNames RestoresNames SuitsNames
run_plain_call-run_parameters-requires g t c =
    λ κs lives. (
      omega (arith, ap (λ (r : Context _). r.global.num_operations) c.lend_variables-variables.ensures.run),
      (
        lives.0,
        (
          lives.1,
          (
            rw (c.lend_variables-variables.ensures.run, c.as_slice-args.ensures) c.requires.resolves,
            (
              c.lend_variables-variables.ensures.list,
              rw (c.definition_of-def.ensures.value, c.as_slice-args.ensures)
                  c.requires.plain.takes,
            ),
          ),
        ),
      ),
    )

pub run_plain_call-returns-then-not-run_parameters-clause-runs : goal.run_plain_call-returns-then-not-run_parameters-clause-runs
run_plain_call-returns-then-not-run_parameters-clause-runs g t c =
    let rules = under g.H.Host.name_of c.args.self.now g.T.NativeTable.natives in
    let fills = rw (c.lend_variables-variables.ensures.run, c.definition_of-def.ensures.value, c.as_slice-args.ensures)
    at c.if-not-run_parameters.ensures.fills in
    rw c.keep_variables.ensures
    (plain_stops rules c.args.call.now c.args.run.now.global.lists.0 _ c.requires.plain c.args.pos c.run_parameters.new.variables
    _ c.run_parameters.new.run.error _ fills)

pub run_plain_call-returns-then-stops_by_race-clause-runs : goal.run_plain_call-returns-then-stops_by_race-clause-runs
run_plain_call-returns-then-stops_by_race-clause-runs g t c =
    let rules = under g.H.Host.name_of c.args.self.now g.T.NativeTable.natives in
    let fills = rw (c.lend_variables-variables.ensures.run, c.definition_of-def.ensures.value, c.as_slice-args.ensures)
    at c.if-not-run_parameters.ensures.fills in
    rw c.keep_variables-then-stops_by_race.ensures
    (plain_fails rules c.args.call.now c.args.run.now.global.lists.0 _ c.requires.plain c.args.pos c.run_parameters.new.variables
    _ c.run_parameters.new.run.error _ c.run_parameters.new.run fills refl
    (error_in c.stops_by_race.new.place) (rw c.as_slice.ensures at c.if-stops_by_race.ensures.races) (c.if-stops_by_race.ensures.told refl))

pub run_plain_call-returns-in-Some-clause-runs : goal.run_plain_call-returns-in-Some-clause-runs
run_plain_call-returns-in-Some-clause-runs g t c =
    let rules = under g.H.Host.name_of c.args.self.now g.T.NativeTable.natives in
    let fills = rw (c.lend_variables-variables.ensures.run, c.definition_of-def.ensures.value, c.as_slice-args.ensures)
    at c.if-not-run_parameters.ensures.fills in
    let mid = c.run_parameters.new.run in
    let table = g.T.NativeTable.state c.run_parameters.new.table in
    let own = c.definition_of-def.result.now in
    let start : Context _ = record mid { scope = scope_of c.lend_variables-variables.result; this = None } in
    let level = deeper mid.global.level in
    let after : Context _ = record start { global = c.ends_before.new.global } in
    let out = c.ends_before.new.out in
    let place = c.ends_before.new.place in
    rw c.keep_variables-in-Some.ensures
    (plain_ends rules c.args.call.now c.args.run.now.global.lists.0 _ c.requires.plain c.args.pos c.run_parameters.new.variables
    _ mid.error table mid fills refl own level (came c.in-Some.done out place) table after (rw c.as_slice.ensures at
    c.if-stops_by_race.ensures.races)
    c.definition_of-def.ensures.value refl
    (λ values are. early_ends rules (entered own None NoThis true true values level c.args.pos) table mid.global
    c.ends_before.new.global mid.scope (holding mid.this) start c.lend_variables-variables.ensures.list refl after refl out place
    c.ends_before.result c.ends_before.ensures.spent c.ends_before.ensures.charged
    (rw c.lend_variables-variables.ensures.list c.ends_before.ensures.refused) (rw c.lend_variables-variables.ensures.list
    c.ends_before.ensures.passed)
    c.in-Some.done c.in-Some.is))

pub run_plain_call-returns-in-Some-clause-counts : goal.run_plain_call-returns-in-Some-clause-counts
run_plain_call-returns-in-Some-clause-counts g t c done =
    let room = passed_charged c.run_parameters.new.run.global.num_operations c.args.self.now.session.limits.max_operations
    c.in-Some.done c.ends_before.result c.in-Some.is done (λ full. (c.ends_before.ensures.spent full).0) in
    omega (
      arith,
      ap (λ (r : Context _). r.global.num_operations) c.lend_variables-variables.ensures.run,
      c.if-not-run_parameters.ensures.counts refl,
      ap (λ (global : RunState _). global.num_operations) (c.ends_before.ensures.charged room),
      ap (λ (r : Context _). r.global.num_operations) c.keep_variables-in-Some.ensures,
    )

pub run_plain_call-run_stmt_block-done-requires : goal.run_plain_call-run_stmt_block-done-requires
unfolding ChangesNames KeepsNames RestoresNames SuitsNames
run_plain_call-run_stmt_block-done-requires g t c =
    let rules = under g.H.Host.name_of c.args.self.now g.T.NativeTable.natives in
    let resolved = entered_resolves rules c.as_slice-args.result.now c.run_parameters.new.variables _ _ c.run_parameters.new.run.error
    c.definition_of-def.result.now (imports_in c.ends_before.new.global.lists.1)
    (rw c.definition_of-def.ensures.value c.definition_of-def.ensures.resolves) c.if-not-run_parameters.ensures.fills in
    let room = was_charged c.run_parameters.new.run.global.num_operations c.args.self.now.session.limits.max_operations
    c.ends_before.result c.in_default.is (λ full. (c.ends_before.ensures.spent full).0) in
    λ κs lives. (
      omega (
        arith,
        ap (λ (r : Context _). r.global.num_operations) c.lend_variables-variables.ensures.run,
        c.if-not-run_parameters.ensures.counts refl,
        room,
        ap (λ (global : RunState _). global.num_operations) (c.ends_before.ensures.charged room),
        ap (λ (r : Context _). r.global.num_operations) c.enter_plain-entered.ensures.run,
      ),
      (
        lives.0,
        (lives.1, suits_now _ _ (rw (c.statements_of-statements.ensures, c.enter_plain-entered.ensures.run) resolved)),
      ),
    )

pub run_plain_call-returns-clause-counts : goal.run_plain_call-returns-clause-counts
run_plain_call-returns-clause-counts g t c done =
    let rules = under g.H.Host.name_of c.args.self.now g.T.NativeTable.natives in
    let outcome = came c.run_stmt_block-done.result c.run_stmt_block-done.new.run.value c.run_stmt_block-done.new.run.error in
    let room = was_charged c.run_parameters.new.run.global.num_operations c.args.self.now.session.limits.max_operations
    c.ends_before.result c.in_default.is (λ full. (c.ends_before.ensures.spent full).0) in
    omega (
      arith,
      ap (λ (r : Context _). r.global.num_operations) c.lend_variables-variables.ensures.run,
      c.if-not-run_parameters.ensures.counts refl,
      ap (λ (global : RunState _). global.num_operations) (c.ends_before.ensures.charged room),
      ap (λ (r : Context _). r.global.num_operations) c.enter_plain-entered.ensures.run,
      counted rules (Enter c.statements_of-statements.result.now true) (ended outcome) _ _ c.run_stmt_block-done.ensures.runs,
      ap (λ (global : RunState _). global.num_operations) c.leave_plain.ensures.state,
    )

pub run_plain_call-returns-clause-names : goal.run_plain_call-returns-clause-names
unfolding ChangesNames KeepsNames RestoresNames SuitsNames
run_plain_call-returns-clause-names g t c done =
    let lent = c.lend_variables-variables.ensures.run in
    let before = c.ends_before.new.global in
    let sight = sight_closed before c.enter_plain-entered.new.run.global c.run_stmt_block-done.new.run.global
    c.leave_plain.new.run.global None (deeper before.level) c.enter_plain-entered.result.exit
    (ap (λ (exit : CallExit). exit.imports_length) (c.enter_plain-entered.ensures.exit c.args.run.now.scope))
    (ap (λ (r : Context _). r.global) c.enter_plain-entered.ensures.run) (c.run_stmt_block-done.ensures.restores refl).sight
    c.leave_plain.ensures.state ∙ c.ends_before.ensures.sight in
    leads_then (stays (ap sight_in lent) (ap (λ (r : Context _). names r) lent))
    (leads_then (c.if-not-run_parameters.ensures.names refl)
    (stays sight (ap names_in c.leave_plain.ensures.scope
    ∙ ap (λ caller. names_in (scope_of caller.variables)) c.enter_plain-entered.ensures.caller)))

pub run_plain_call-returns-in-Some-clause-names : goal.run_plain_call-returns-in-Some-clause-names
unfolding ChangesNames KeepsNames RestoresNames SuitsNames
run_plain_call-returns-in-Some-clause-names g t c done =
    let lent = c.lend_variables-variables.ensures.run in
    let kept = c.keep_variables-in-Some.ensures in
    leads_then (stays (ap sight_in lent) (ap (λ (r : Context _). names r) lent))
    (leads_then (c.if-not-run_parameters.ensures.names refl)
    (stays (ap sight_in kept ∙ c.ends_before.ensures.sight)
    (ap (λ (r : Context _). names r) kept)))

pub run_plain_call-returns-clause-runs : goal.run_plain_call-returns-clause-runs
run_plain_call-returns-clause-runs g t c =
    let rules = under g.H.Host.name_of c.args.self.now g.T.NativeTable.natives in
    let fills = rw (c.lend_variables-variables.ensures.run, c.definition_of-def.ensures.value, c.as_slice-args.ensures)
    at c.if-not-run_parameters.ensures.fills in
    let mid = c.run_parameters.new.run in
    let table = g.T.NativeTable.state c.run_parameters.new.table in
    let own = c.definition_of-def.result.now in
    let start : Context _ = record mid { scope = scope_of c.lend_variables-variables.result; this = None } in
    let own_is = c.definition_of-def.ensures.value in
    let level = deeper mid.global.level in
    let opened = c.enter_plain-entered.new.run in
    let run = c.run_stmt_block-done.new.run in
    let outcome = came c.run_stmt_block-done.result run.value run.error in
    let left = g.T.NativeTable.state c.run_stmt_block-done.new.table in
    let room = was_charged c.run_parameters.new.run.global.num_operations c.args.self.now.session.limits.max_operations
    c.ends_before.result c.in_default.is (λ full. (c.ends_before.ensures.spent full).0) in
    let passes = c.ends_before.ensures.enters c.in_default.is in
    let closed = c.leave_plain.new.run.global in
    let result = came c.leave_plain.result c.leave_plain.new.run.value c.leave_plain.new.run.error in
    rw (c.leave_plain.ensures.scope, c.leave_plain.ensures.this, c.enter_plain-entered.ensures.caller)
    (plain_ends rules c.args.call.now c.args.run.now.global.lists.0 _ c.requires.plain c.args.pos c.run_parameters.new.variables
    _ mid.error table mid fills refl own level result left (record run { global = closed }) (rw c.as_slice.ensures at
    c.if-stops_by_race.ensures.races) own_is refl
    (λ values are. whole_ends rules (entered own None NoThis true true values level c.args.pos) table mid.global
    c.ends_before.new.global mid.scope (holding mid.this) start c.lend_variables-variables.ensures.list refl room
    (c.ends_before.ensures.charged room) passes.0
    (rw c.lend_variables-variables.ensures.list passes.1)
    passes.2 opened
    (ap (λ (r : Context _). r.global) c.enter_plain-entered.ensures.run
    ∙ ap (λ (g : RunState _). entered_global None (deeper g.level) c.ends_before.new.global) (c.ends_before.ensures.charged room))
    (ap (λ (r : Context _). entries_of r.scope) c.enter_plain-entered.ensures.run ∙ rw c.lend_variables-variables.ensures.list are)
    (ap (λ (r : Context _). r.this) c.enter_plain-entered.ensures.run) outcome left run
    (rw c.statements_of-statements.ensures at c.run_stmt_block-done.ensures.runs) result closed
    (c.leave_plain.ensures.state ∙ ap (λ exit. taken_back exit run.global) (c.enter_plain-entered.ensures.exit start.scope))
    c.leave_plain.ensures.outcome))

-- its arguments become the parameters

pub run_parameters-run_arg-requires : goal.run_parameters-run_arg-requires
unfolding ChangesNames KeepsNames RestoresNames SuitsNames
run_parameters-run_arg-requires g t c =
    λ κs lives. (
      omega arith,
      (
        lives.0,
        (
          lives.1,
          brings (λ frame. part_resolves c.args.args.now c.each_arg.arg-index c.arg-item.result frame c.each_arg-test.true c.arg-item.is)
              (still c.each_arg.invariant.names c.requires.resolves),
        ),
      ),
    )

pub run_parameters-each_arg-init : goal.run_parameters-each_arg-init
unfolding ChangesNames KeepsNames RestoresNames SuitsNames
run_parameters-each_arg-init g t c =
    let rules = under g.H.Host.name_of c.args.self.now g.T.NativeTable.natives in
    record {
      counts = omega arith;
      names = stays refl refl;
      fills = filling_begins rules c.args.def.now.params c.args.args.now c.args.variables.now _ c.requires.empty;
    }

pub run_parameters-push_parameter-requires : goal.run_parameters-push_parameter-requires
unfolding ChangesNames KeepsNames RestoresNames SuitsNames
run_parameters-push_parameter-requires g t c =
    let rules = under g.H.Host.name_of c.args.self.now g.T.NativeTable.natives in
    has_room rules c.args.def.now.params c.args.args.now c.each_arg.variables _ _ c.arg-item.result _ c.requires.takes
    (rw (drop_item _ _ _ c.each_arg-test.true c.arg-item.is) at c.each_arg.invariant.fills)

pub run_parameters-each_arg-preserved : goal.run_parameters-each_arg-preserved
unfolding ChangesNames KeepsNames RestoresNames SuitsNames
run_parameters-each_arg-preserved g t c =
    let rules = under g.H.Host.name_of c.args.self.now g.T.NativeTable.natives in
    record {
      counts = omega (arith, c.each_arg.invariant.counts, c.if-not-run_arg.ensures.charges refl);
      names = leads_then c.each_arg.invariant.names (c.if-not-run_arg.ensures.names refl);
      fills = filling_grows rules c.args.def.now.params c.args.args.now c.each_arg.variables _ _ c.arg-item.result _
          c.requires.takes (rw (drop_item _ _ _ c.each_arg-test.true c.arg-item.is) at c.each_arg.invariant.fills) _
          c.run_arg.new.run.value c.push_parameter.new.variables c.if-not-run_arg.ensures.runs
          (c.if-not-push_parameter.ensures.filled refl);
    }

pub run_parameters-returns-then-not-run_arg-clause-fills : goal.run_parameters-returns-then-not-run_arg-clause-fills
run_parameters-returns-then-not-run_arg-clause-fills g t c =
    let rules = under g.H.Host.name_of c.args.self.now g.T.NativeTable.natives in
    filling_stops rules c.args.def.now.params c.args.args.now c.each_arg.variables _ _ c.arg-item.result _ c.requires.takes
    (rw (drop_item _ _ _ c.each_arg-test.true c.arg-item.is) at c.each_arg.invariant.fills) _ _ c.run_arg.new.run.error
    c.if-not-run_arg.ensures.runs

pub run_parameters-returns-then-not-push_parameter-clause-fills : goal.run_parameters-returns-then-not-push_parameter-clause-fills
run_parameters-returns-then-not-push_parameter-clause-fills g t c =
    let rules = under g.H.Host.name_of c.args.self.now g.T.NativeTable.natives in
    filling_fails rules c.args.def.now.params c.args.args.now c.each_arg.variables _ _ c.arg-item.result _ c.requires.takes
    (rw (drop_item _ _ _ c.each_arg-test.true c.arg-item.is) at c.each_arg.invariant.fills) _ c.run_arg.new.run.value _
    c.push_parameter.new.place c.if-not-run_arg.ensures.runs
    (c.if-not-push_parameter.ensures.refused refl)

pub run_parameters-returns-clause-fills : goal.run_parameters-returns-clause-fills
run_parameters-returns-clause-fills g t c =
    let rules = under g.H.Host.name_of c.args.self.now g.T.NativeTable.natives in
    filling_ends rules c.args.def.now.params c.args.args.now c.each_arg.variables _ _ c.each_arg.run.error c.requires.takes
    (rw (drop_all _ _ c.each_arg-test.false) at c.each_arg.invariant.fills)
