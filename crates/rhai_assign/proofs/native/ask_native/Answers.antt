use Rattle.std.proofs.Common.{sym, ◌∙◌}
use Rattle.rhai_errors.specs.Native.{reply_of}
use Rattle.rhai_machine.specs.language.Frames.{Update}
use Rattle.rhai_machine.specs.language.Setting.{Rules}
use Rattle.rhai_steps.specs.Sessions.{under}
use Rattle.rhai_steps.proofs.Pieces.{passed}
use Rattle.rhai_assign.specs.Updates.{update_of}
use Rattle.rhai_assign.proofs.Natives.{asked, asked_alike, bars_update, holds_update, refuses_update}
use Rattle.rhai_assign.proofs.native.ask_native.Goals as goal

pub returns-in_err-track_operation-clause-refused :
    goal.returns-in_err-track_operation-clause-refused
returns-in_err-track_operation-clause-refused g c =
    rw (passed c.from_residual.result c.from_residual.ensures) (λ scope held place attempt operand named.
    let rules : Rules _ _ = under g.H.Host.name_of c.args.session.now g.T.NativeTable.natives in
    refuses_update rules (g.T.NativeTable.state c.args.table.now) c.args.global.now c.track_operation.new.global scope held
    (update_of c.args.update attempt place c.args.target.now operand) c.in_err-track_operation.field-0.0
    c.in_err-track_operation.ensures.full c.in_err-track_operation.ensures.refused c.in_err-track_operation.ensures.same)

pub returns-then-is_bare_handle-clause-refused : goal.returns-then-is_bare_handle-clause-refused
returns-then-is_bare_handle-clause-refused g c scope held place attempt operand named =
    let rules : Rules _ _ = under g.H.Host.name_of c.args.session.now g.T.NativeTable.natives in
    let u : Update _ = update_of c.args.update attempt place c.args.target.now operand in
    holds_update rules (g.T.NativeTable.state c.args.table.now) c.args.global.now c.track_operation.new.global scope held u
    c.in_ok-track_operation.ensures.room c.in_ok-track_operation.ensures.charged c.requires.free c.args.name.now c.data_race_of.result
    (asked_alike g.H.Host.name_of g.T.NativeTable.natives _ c.as_str.result.now _ c.args.target.now c.is_barred.result _
    (c.as_str.ensures ∙ c.get.ensures ∙ named) c.is_barred.ensures c.if-is_barred.false)
    (sym c.is_bare_handle.ensures ∙ c.if-is_bare_handle.true) named c.data_race_of.ensures

pub returns-then-is_barred-clause-refused : goal.returns-then-is_barred-clause-refused
returns-then-is_barred-clause-refused g c scope held place attempt operand named =
    let rules : Rules _ _ = under g.H.Host.name_of c.args.session.now g.T.NativeTable.natives in
    let u : Update _ = update_of c.args.update attempt place c.args.target.now operand in
    bars_update rules (g.T.NativeTable.state c.args.table.now) c.args.global.now c.track_operation.new.global scope held u
    c.in_ok-track_operation.ensures.room c.in_ok-track_operation.ensures.charged c.requires.free c.args.name.now c.non_pure_of.result
    (asked_alike g.H.Host.name_of g.T.NativeTable.natives _ c.as_str.result.now _ c.args.target.now c.is_barred.result _
    (c.as_str.ensures ∙ c.get.ensures ∙ named) c.is_barred.ensures c.if-is_barred.true)
    named c.non_pure_of.ensures

pub returns-clause-asked : goal.returns-clause-asked
returns-clause-asked g c scope held place attempt operand from named only =
    let rules : Rules _ _ = under g.H.Host.name_of c.args.session.now g.T.NativeTable.natives in
    let u : Update _ = update_of c.args.update attempt place c.args.target.now operand in
    asked rules (g.T.NativeTable.state c.args.table.now) c.args.global.now c.track_operation.new.global scope held u
    c.in_ok-track_operation.ensures.room c.in_ok-track_operation.ensures.charged c.requires.free
    (g.T.NativeTable.state c.call_on.new.table) c.args.update.cell c.call_on.new.target
    (sym c.is_bare_handle.ensures ∙ c.if-is_bare_handle.false) (rw c.in_ok-track_operation.ensures.charged c.requires.own) from
    (asked_alike g.H.Host.name_of g.T.NativeTable.natives _ c.as_str.result.now _ c.args.target.now c.is_barred.result _
    (c.as_str.ensures ∙ c.get.ensures ∙ named) c.is_barred.ensures c.if-is_barred.false)
    (reply_of c.call_on.result) c.args.name.now c.args.rest.now
    (rw (c.as_str-2.ensures, c.get-2.ensures) at c.call_on.ensures.obeys)
    (record {
      no_handle = c.call_on.ensures.plain;
      leaves = rw (c.as_str-2.ensures, c.get-2.ensures) at c.call_on.ensures.leaves;
    })
    named only
