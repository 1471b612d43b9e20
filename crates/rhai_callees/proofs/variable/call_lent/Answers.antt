use Rattle.std.proofs.Common.{◌≡◌, ◌∷◌, Some, true}
use Rattle.rhai_machine.specs.language.Calls.{plainly}
use Rattle.rhai_machine.specs.language.Setting.{Rules}
use Rattle.rhai_machine.specs.language.Frames.{Operation, FromEntry}
use Rattle.rhai_steps.specs.Operations.{operation_of}
use Rattle.rhai_steps.specs.Sessions.{under}
use Rattle.rhai_steps.specs.States.{state_of}
use Rattle.rhai_calls.specs.Called.{with_args}
use Rattle.rhai_steps.specs.Lending.{lent_call}
use Rattle.rhai_callees.proofs.Lending.{lent_names, lent_runs}
use Rattle.rhai_callees.proofs.variable.call_lent.Goals as goal

pub returns-clause-names : goal.returns-clause-names
returns-clause-names g c =
    lent_names c.args.scope.now c.replace_value-first.new.self c.replace_value.new.self c.args.index c.unit_value.result
    c.call_first-called.new.first c.replace_value-first.ensures.after c.replace_value.ensures.after

pub returns-clause-runs : goal.returns-clause-runs
returns-clause-runs g c held on_scope v stands =
    let rules : Rules _ _ = under g.H.Host.name_of c.args.session.now g.T.NativeTable.natives in
    let operation : Operation = operation_of c.args.operation.now in
    let before = c.replace_value-first.ensures.before in
    let same : v ≡ c.replace_value-first.result = cc in
    lent_runs c.args.scope.now c.replace_value-first.new.self c.replace_value.new.self c.args.index c.unit_value.result
    c.call_first-called.new.first c.replace_value-first.ensures.after c.replace_value.ensures.after rules
    (plainly c.args.natives_alone on_scope)
    (lent_call operation (Some (FromEntry c.args.index)) true (v ∷ c.args.args.now))
    (state_of (g.T.NativeTable.state c.args.table.now) c.args.global.now c.args.scope.now held)
    (with_args c.call_first-called.result c.call_first-called.new.args) (g.T.NativeTable.state c.call_first-called.new.table)
    c.call_first-called.new.global held
    (rw same (c.call_first-called.ensures.runs c.args.scope.now held (FromEntry c.args.index) on_scope before))
