use Rattle.std.proofs.Common.{true, false, not, ◌∷◌, Some, None, Ok, Err, sym, ◌∙◌}
use Rattle.rhai_errors.specs.declared.error.EvalAltResult.TheVariants as error
use Rattle.rhai_state.specs.Scope.{entries_of}
use Rattle.rhai_machine.specs.language.Calls.{plainly}
use Rattle.rhai_machine.specs.language.Setting.{Rules, globals_of}
use Rattle.rhai_machine.specs.language.Frames.{Dispatch, Operation, FromEntry}
use Rattle.rhai_machine.specs.language.State.{State}
use Rattle.rhai_machine.specs.language.Variables.{Variable}
use Rattle.rhai_steps.specs.Operations.{operation_of}
use Rattle.rhai_steps.specs.Sessions.{offer_of, under}
use Rattle.rhai_steps.specs.States.{state_of, surroundings_of}
use Rattle.rhai_calls.specs.Called.{with_args}
use Rattle.rhai_steps.specs.Lending.{lent_call}
use Rattle.rhai_calls.proofs.OnVariable.{on_called}
use Rattle.rhai_callees.proofs.Going.{on_failed, on_refused}
use Rattle.rhai_names.proofs.Passing.{on_held, on_lent, on_passed}
use Rattle.rhai_callees.proofs.variable.call_found.Goals as goal

pub returns-then-is_held-clause-runs : goal.returns-then-is_held-clause-runs
returns-then-is_held-clause-runs g c held on_scope path there =
    let rules : Rules _ _ = under g.H.Host.name_of c.args.session.now g.T.NativeTable.natives in
    let how : Dispatch = plainly c.args.natives_alone on_scope in
    let operation : Operation = operation_of c.args.operation.now in
    let variable : Variable = record { path = path; name = c.args.variable.now.name.now; at = c.args.variable.now.at } in
    let s : State _ _ = state_of (g.T.NativeTable.state c.args.table.now) c.args.global.now c.args.scope.now held in
    on_refused rules operation variable how c.args.args.now s
    (error.ErrorDataRace c.args.variable.now.name.now c.args.variable.now.at) c.data_race_of.result
    (on_held (globals_of (offer_of c.args.session.now)) (surroundings_of c.args.global.now) (entries_of c.args.scope.now) variable operation
    c.args.args.now c.args.index c.value_at-value.result.now there c.value_at-value.ensures
    (sym c.is_held.ensures ∙ c.if-is_held.true)) c.data_race_of.ensures (not on_scope) c.args.operation.now.at

pub returns-then-is_lendable-clause-runs : goal.returns-then-is_lendable-clause-runs
returns-then-is_lendable-clause-runs g c held on_scope path there =
    let rules : Rules _ _ = under g.H.Host.name_of c.args.session.now g.T.NativeTable.natives in
    let how : Dispatch = plainly c.args.natives_alone on_scope in
    let operation : Operation = operation_of c.args.operation.now in
    let variable : Variable = record { path = path; name = c.args.variable.now.name.now; at = c.args.variable.now.at } in
    let s : State _ _ = state_of (g.T.NativeTable.state c.args.table.now) c.args.global.now c.args.scope.now held in
    on_called rules operation variable how c.args.args.now s
    (lent_call operation (Some (FromEntry c.args.index)) true (c.value_at-value.result.now ∷ c.args.args.now))
    (on_lent (globals_of (offer_of c.args.session.now)) (surroundings_of c.args.global.now) (entries_of c.args.scope.now) variable operation
    c.args.args.now c.args.index c.value_at-value.result.now there c.value_at-value.ensures
    (sym c.is_held.ensures ∙ c.if-is_held.false) (sym c.is_lendable.ensures ∙ c.if-is_lendable.true)) (with_args c.call_lent.result
    c.call_lent.new.args)
    (state_of (g.T.NativeTable.state c.call_lent.new.table) c.call_lent.new.global c.call_lent.new.scope held)
    (c.call_lent.ensures.runs held on_scope c.value_at-value.result.now c.value_at-value.ensures)

pub returns-in-Ok-clause-runs : goal.returns-in-Ok-clause-runs
returns-in-Ok-clause-runs g c held on_scope path there =
    let rules : Rules _ _ = under g.H.Host.name_of c.args.session.now g.T.NativeTable.natives in
    let how : Dispatch = plainly c.args.natives_alone on_scope in
    let operation : Operation = operation_of c.args.operation.now in
    let variable : Variable = record { path = path; name = c.args.variable.now.name.now; at = c.args.variable.now.at } in
    let s : State _ _ = state_of (g.T.NativeTable.state c.args.table.now) c.args.global.now c.args.scope.now held in
    on_called rules operation variable how c.args.args.now s
    (lent_call operation None false (c.in-Ok.first ∷ c.args.args.now))
    (on_passed (globals_of (offer_of c.args.session.now)) (surroundings_of c.args.global.now)
    (entries_of c.args.scope.now) variable operation
    c.args.args.now c.args.index c.value_at-value.result.now there c.value_at-value.ensures
    (sym c.is_held.ensures ∙ c.if-is_held.false) (sym c.is_lendable.ensures ∙ c.if-is_lendable.false) (Ok c.in-Ok.first)
    (c.in-Ok.ensures tt)) (with_args c.call_passed.result c.call_passed.new.args)
    (state_of (g.T.NativeTable.state c.call_passed.new.table) c.call_passed.new.global c.args.scope.now held)
    (c.call_passed.ensures.runs c.args.scope.now held on_scope)

pub returns-in-Err-clause-runs : goal.returns-in-Err-clause-runs
returns-in-Err-clause-runs g c held on_scope path there =
    let rules : Rules _ _ = under g.H.Host.name_of c.args.session.now g.T.NativeTable.natives in
    let how : Dispatch = plainly c.args.natives_alone on_scope in
    let operation : Operation = operation_of c.args.operation.now in
    let variable : Variable = record { path = path; name = c.args.variable.now.name.now; at = c.args.variable.now.at } in
    let s : State _ _ = state_of (g.T.NativeTable.state c.args.table.now) c.args.global.now c.args.scope.now held in
    on_failed rules operation variable how c.args.args.now s c.in-Err.error (λ m.
    on_passed (globals_of (offer_of c.args.session.now)) (surroundings_of c.args.global.now)
    (entries_of c.args.scope.now) variable operation
    c.args.args.now c.args.index c.value_at-value.result.now there c.value_at-value.ensures
    (sym c.is_held.ensures ∙ c.if-is_held.false) (sym c.is_lendable.ensures ∙ c.if-is_lendable.false) (Err c.in-Err.error)
    (c.in-Err.ensures m)) (not on_scope) c.args.operation.now.at
