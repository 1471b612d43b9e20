use Rattle.std.proofs.Common.{sym, ap, ◌∙◌}
use Rattle.rhai_machine.specs.language.Setting.{Rules}
use Rattle.rhai_machine.specs.language.State.{State}
use Rattle.rhai_machine.specs.language.Calls.{sized}
use Rattle.rhai_machine.specs.language.Frames.{InPlace, Update, AskUpdate, ended}
use Rattle.rhai_machine.specs.language.Runs.{at, Goes}
use Rattle.rhai_steps.specs.Sessions.{under}
use Rattle.rhai_steps.specs.States.{state_of}
use Rattle.rhai_assign.specs.Lending.{placed}
use Rattle.rhai_assign.specs.Updates.{other_fault, update_of}
use Rattle.rhai_assign.proofs.Updates.{changed_by, failed_by, goes_on_by, missing_by, ends_of_memory}
use Rattle.rhai_assign.proofs.update.update_in_place.Goals as goal

pub returns-in_default-clause-runs : goal.returns-in_default-clause-runs
returns-in_default-clause-runs g c scope held place operand from only =
    let rules : Rules _ _ = under g.H.Host.name_of c.args.session.now g.T.NativeTable.natives in
    ends_of_memory rules (AskUpdate (update_of c.args.update InPlace place c.args.target.now operand))
    (placed place c.args.target.now (state_of (g.T.NativeTable.state c.args.table.now) c.args.global.now scope held)) c.args.update.at

pub returns-in-Missing-clause-runs : goal.returns-in-Missing-clause-runs
returns-in-Missing-clause-runs g c scope held place operand from only =
    let rules : Rules _ _ = under g.H.Host.name_of c.args.session.now g.T.NativeTable.natives in
    let asked = c.in_ok-ask_native.ensures.asked scope held place InPlace operand from c.in-Ok.ensures only in
    missing_by rules c.args.update place c.args.target.now c.ask_native.new.target operand _ _ _ c.update_again.result
    (rw c.in-Missing.is at asked) (c.update_again.ensures.runs scope held place operand from only)

pub returns-in-Value-clause-runs : goal.returns-in-Value-clause-runs
unfolding Goes
returns-in-Value-clause-runs g c scope held place operand from only k =
    let rules : Rules _ _ = under g.H.Host.name_of c.args.session.now g.T.NativeTable.natives in
    let asked = c.in_ok-ask_native.ensures.asked scope held place InPlace operand from c.in-Ok.ensures only in
    let first : Update _ = update_of c.args.update InPlace place c.args.target.now operand in
    let start : State _ _ = placed place c.args.target.now
    (state_of (g.T.NativeTable.state c.args.table.now) c.args.global.now scope held) in
    let now : State _ _ = placed place c.ask_native.new.target
    (state_of (g.T.NativeTable.state c.ask_native.new.table) c.ask_native.new.global scope held) in
    let u : Update _ = update_of c.args.update InPlace place c.ask_native.new.target operand in
    let value = sized c.args.session.now.limits c.in-Value.value c.args.update.at in
    changed_by rules (at (AskUpdate first) k start) k now u value c.measure_changed.result ((rw c.in-Value.is at asked.answered) k)
    c.measure_changed.ensures

pub returns-in-Some-clause-runs : goal.returns-in-Some-clause-runs
unfolding Goes
returns-in-Some-clause-runs g c scope held place operand from only k =
    let rules : Rules _ _ = under g.H.Host.name_of c.args.session.now g.T.NativeTable.natives in
    let asked = c.in_ok-ask_native.ensures.asked scope held place InPlace operand from c.in-Ok.ensures only in
    let first : Update _ = update_of c.args.update InPlace place c.args.target.now operand in
    let start : State _ _ = placed place c.args.target.now
    (state_of (g.T.NativeTable.state c.args.table.now) c.args.global.now scope held) in
    let now : State _ _ = placed place c.ask_native.new.target
    (state_of (g.T.NativeTable.state c.ask_native.new.table) c.ask_native.new.global scope held) in
    let u : Update _ = update_of c.args.update InPlace place c.ask_native.new.target operand in
    let some = ap (λ (name : _). other_fault name c.in-Fault.error) (sym c.in-Ok.ensures) ∙ sym c.unless_missing.ensures ∙ c.in-Some.is in
    failed_by rules (at (AskUpdate first) k start) k now u _ c.in-Fault.error c.in-Some.error c.position_if_none.result
    ((rw c.in-Fault.is at asked.answered) k) some c.position_if_none.ensures

pub returns-in-Fault-clause-runs : goal.returns-in-Fault-clause-runs
unfolding Goes
returns-in-Fault-clause-runs g c scope held place operand from only k =
    let rules : Rules _ _ = under g.H.Host.name_of c.args.session.now g.T.NativeTable.natives in
    let asked = c.in_ok-ask_native.ensures.asked scope held place InPlace operand from c.in-Ok.ensures only in
    let first : Update _ = update_of c.args.update InPlace place c.args.target.now operand in
    let start : State _ _ = placed place c.args.target.now
    (state_of (g.T.NativeTable.state c.args.table.now) c.args.global.now scope held) in
    let now : State _ _ = placed place c.ask_native.new.target
    (state_of (g.T.NativeTable.state c.ask_native.new.table) c.ask_native.new.global scope held) in
    let u : Update _ = update_of c.args.update InPlace place c.ask_native.new.target operand in
    let new : State _ _ = placed place c.update_by_value.new.target
    (state_of (g.T.NativeTable.state c.update_by_value.new.table) c.update_by_value.new.global scope held) in
    let none = ap (λ (name : _). other_fault name c.in-Fault.error) (sym c.in-Ok.ensures) ∙ sym c.unless_missing.ensures ∙ c.in-None.is in
    goes_on_by rules (at (AskUpdate first) k start) k now u _ c.in-Fault.error _ (at (ended c.update_by_value.result) k new)
    ((rw c.in-Fault.is at asked.answered) k) none (c.update_by_value.ensures.runs scope held place operand from only k)

pub returns-clause-runs : goal.returns-clause-runs
returns-clause-runs g c scope held place operand from only =
    let asked = c.in_ok-ask_native.ensures.asked scope held place InPlace operand from c.in-Ok.ensures only in
    asked.out_in_native c.args.update.at
