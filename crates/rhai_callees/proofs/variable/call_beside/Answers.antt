use Rattle.rhai_names.specs.Variables.{variable_told}
use Rattle.std.proofs.Common.{refl, false, not, ◌∷◌, None, Ok, Err}
use Rattle.rhai_state.specs.Scope.{entries_of}
use Rattle.rhai_machine.specs.language.Calls.{plainly}
use Rattle.rhai_machine.specs.language.Setting.{Rules, globals_of}
use Rattle.rhai_machine.specs.language.Frames.{Dispatch, Operation}
use Rattle.rhai_machine.specs.language.State.{State}
use Rattle.rhai_machine.specs.language.Variables.{Variable}
use Rattle.rhai_steps.specs.Operations.{operation_of}
use Rattle.rhai_steps.specs.Sessions.{offer_of, under}
use Rattle.rhai_steps.specs.States.{state_of, surroundings_of}
use Rattle.rhai_calls.specs.Called.{with_args}
use Rattle.rhai_steps.specs.Lending.{lent_call}
use Rattle.rhai_calls.proofs.OnVariable.{on_called}
use Rattle.rhai_callees.proofs.Going.{on_failed}
use Rattle.rhai_names.proofs.Passing.{beside_offered, on_beside}
use Rattle.rhai_callees.proofs.variable.call_beside.Goals as goal

pub returns-in-Ok-clause-runs : goal.returns-in-Ok-clause-runs
returns-in-Ok-clause-runs g c scope held on_scope none =
    let rules : Rules _ _ = under g.H.Host.name_of c.args.session.now g.T.NativeTable.natives in
    let how : Dispatch = plainly c.args.natives_alone on_scope in
    let operation : Operation = operation_of c.args.operation.now in
    let variable : Variable = variable_told c.args.variable.now in
    let s : State _ _ = state_of (g.T.NativeTable.state c.args.table.now) c.args.global.now scope held in
    on_called rules operation variable how c.args.args.now s (lent_call operation None false (c.in-Ok.first ∷ c.args.args.now))
    (on_beside (globals_of (offer_of c.args.session.now)) (surroundings_of c.args.global.now)
    (entries_of scope) variable operation c.args.args.now none
    (Ok c.in-Ok.first) (beside_offered (offer_of c.args.session.now) c.args.session.now.offered (refl, refl)
    (surroundings_of c.args.global.now) variable (Ok c.in-Ok.first)
    (c.in-Ok.ensures tt))) (with_args c.call_passed.result c.call_passed.new.args)
    (state_of (g.T.NativeTable.state c.call_passed.new.table) c.call_passed.new.global scope held)
    (c.call_passed.ensures.runs scope held on_scope)

pub returns-in-Err-clause-runs : goal.returns-in-Err-clause-runs
returns-in-Err-clause-runs g c scope held on_scope none =
    let rules : Rules _ _ = under g.H.Host.name_of c.args.session.now g.T.NativeTable.natives in
    let how : Dispatch = plainly c.args.natives_alone on_scope in
    let operation : Operation = operation_of c.args.operation.now in
    let variable : Variable = variable_told c.args.variable.now in
    let s : State _ _ = state_of (g.T.NativeTable.state c.args.table.now) c.args.global.now scope held in
    on_failed rules operation variable how c.args.args.now s c.in-Err.error (λ m.
    on_beside (globals_of (offer_of c.args.session.now)) (surroundings_of c.args.global.now)
    (entries_of scope) variable operation c.args.args.now none
    (Err c.in-Err.error) (beside_offered (offer_of c.args.session.now) c.args.session.now.offered (refl, refl)
    (surroundings_of c.args.global.now) variable (Err c.in-Err.error)
    (c.in-Err.ensures m))) (not on_scope) c.args.operation.now.at
