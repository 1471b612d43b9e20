use Rattle.std.proofs.Common.{List, None, false, sym, subst}
use Rattle.rhai_machine.specs.language.Frames.{Ask, Operation, ended_or_changed}
use Rattle.rhai_machine.specs.language.Setting.{Rules}
use Rattle.rhai_machine.specs.language.Runs.{Steps}
use Rattle.rhai_steps.specs.States.{state_of}
use Rattle.rhai_values.specs.declared.base.value.Dynamic.{Dynamic}
use Rattle.rhai_steps.specs.Operations.{operation_of}
use Rattle.rhai_steps.specs.Sessions.{under}
use Rattle.rhai_steps.specs.Lending.{passed_call}
use Rattle.rhai_calls.proofs.Taking.{first_and_others, none_below}
use Rattle.rhai_calls.proofs.dispatch.call_native_all.Goals as goal

pub returns-in_default-clause-runs : goal.returns-in_default-clause-runs
returns-in_default-clause-runs g c scope held =
    let rules : Rules _ _ = under g.H.Host.name_of c.args.session.now g.T.NativeTable.natives in
    let operation : Operation = operation_of c.args.operation.now in
    subst (λ (xs : List (Dynamic g.row.H.Denot)).
    Steps rules (Ask (passed_call operation None false c.args.marks xs))
    (state_of (g.T.NativeTable.state c.args.table.now) c.args.global.now scope held) (ended_or_changed c.pass_native_alone.result)
    (state_of (g.T.NativeTable.state c.pass_native_alone.new.table) c.pass_native_alone.new.global scope held))
    (sym (none_below c.args.args.now c.in_default.len_below)) (c.pass_native_alone.ensures.runs scope held)

pub returns-clause-runs : goal.returns-clause-runs
returns-clause-runs g c scope held =
    let rules : Rules _ _ = under g.H.Host.name_of c.args.session.now g.T.NativeTable.natives in
    let operation : Operation = operation_of c.args.operation.now in
    subst (λ (xs : List (Dynamic g.row.H.Denot)).
    Steps rules (Ask (passed_call operation None false c.args.marks xs))
    (state_of (g.T.NativeTable.state c.args.table.now) c.args.global.now scope held) (ended_or_changed c.pass_native.result)
    (state_of (g.T.NativeTable.state c.pass_native.new.table) c.pass_native.new.global scope held))
    (sym (first_and_others c.args.args.now c.result-item.result c.result-item.result c.in-len1-up.len_at_least c.result-item.is))
    (c.pass_native.ensures.runs scope held None tt)
