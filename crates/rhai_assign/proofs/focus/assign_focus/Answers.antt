use Rattle.std.proofs.Common.{Some, refl}
use Rattle.rhai_tree.specs.declared.expr.Expr.{out-Expr}
use Rattle.rhai_tree.specs.Positions.{start_of}
use Rattle.rhai_values.specs.Cells.{cells_of}
use Rattle.rhai_errors.specs.Errors.{root_name}
use Rattle.rhai_machine.specs.language.Places.{InCell, InFocus, focus_target, target}
use Rattle.rhai_machine.specs.language.Setting.{Rules}
use Rattle.rhai_machine.specs.language.State.{State}
use Rattle.rhai_machine.specs.language.Variables.{no_path}
use Rattle.rhai_steps.specs.Sessions.{under}
use Rattle.rhai_steps.specs.States.{state_of}
use Rattle.rhai_assign.specs.FocusTargets.{InItself, InOwnCell}
use Rattle.rhai_assign.specs.Lending.{placed}
use Rattle.rhai_assign.proofs.Going.{focus_fails, focus_found}
use Rattle.rhai_assign.proofs.focus.assign_focus.Goals as goal

pub returns-in-Ok-None-clause-runs : goal.returns-in-Ok-None-clause-runs
returns-in-Ok-None-clause-runs g c scope held =
    let rules : Rules _ _ = under g.H.Host.name_of c.args.session.now g.T.NativeTable.natives in
    let old : State _ _ = placed InFocus c.args.target.now
    (state_of (g.T.NativeTable.state c.args.table.now) c.args.global.now scope held) in
    let new : State _ _ = placed InFocus c.assign_lent.new.target
    (state_of (g.T.NativeTable.state c.assign_lent.new.table) c.assign_lent.new.global scope held) in
    let name = root_name (out-Expr c.args.root.now) in
    let found : InItself c.args.target.now (focus_target (cells_of c.args.global.now.cells) name (start_of c.args.root.now)
    c.args.target.now) = rw c.in-Ok-None.field-0-is at c.in-Ok-None.ensures in
    focus_found rules c.args.root.now c.args.op c.args.value old new (target InFocus c.args.target.now) c.position-pos.result
    c.assign_lent.result found.is c.position-pos.ensures (c.assign_lent.ensures.runs scope held no_path name InFocus refl)

pub returns-in-Ok-Some-clause-runs : goal.returns-in-Ok-Some-clause-runs
returns-in-Ok-Some-clause-runs g c scope held =
    let rules : Rules _ _ = under g.H.Host.name_of c.args.session.now g.T.NativeTable.natives in
    let old : State _ _ = placed InFocus c.args.target.now
    (state_of (g.T.NativeTable.state c.args.table.now) c.args.global.now scope held) in
    let new : State _ _ = placed InFocus c.args.target.now
    (state_of (g.T.NativeTable.state c.assign_in_cell.new.table) c.assign_in_cell.new.global scope held) in
    let name = root_name (out-Expr c.args.root.now) in
    let found : InOwnCell c.in-Ok-Some.id (cells_of c.args.global.now.cells) (focus_target (cells_of c.args.global.now.cells) name
    (start_of c.args.root.now) c.args.target.now) = rw c.in-Ok-Some.field-0-is at c.in-Ok-Some.ensures in
    focus_found rules c.args.root.now c.args.op c.args.value old new (target (InCell c.in-Ok-Some.id.number) found.value)
    c.position-pos.result c.assign_in_cell.result found.is c.position-pos.ensures
    (c.assign_in_cell.ensures.runs scope (record held { focus = Some c.args.target.now }) no_path name found.value found.there)

pub returns-in-Err-clause-runs : goal.returns-in-Err-clause-runs
returns-in-Err-clause-runs g c scope held =
    let rules : Rules _ _ = under g.H.Host.name_of c.args.session.now g.T.NativeTable.natives in
    focus_fails rules c.args.root.now c.args.op c.args.value
    (placed InFocus c.args.target.now (state_of (g.T.NativeTable.state c.args.table.now) c.args.global.now scope held)) c.in-Err.error
    c.in-Err.ensures
