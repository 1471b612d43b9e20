use Rattle.std.proofs.Common.{[], Some, refl}
use Rattle.rhai_values.specs.Cells.{cells_of}
use Rattle.rhai_machine.specs.language.Places.{InCell, InThis, target, this_target}
use Rattle.rhai_machine.specs.language.Setting.{Rules}
use Rattle.rhai_machine.specs.language.State.{State}
use Rattle.rhai_machine.specs.language.Variables.{no_path}
use Rattle.rhai_steps.specs.Sessions.{under}
use Rattle.rhai_steps.specs.States.{state_of}
use Rattle.rhai_assign.specs.FocusTargets.{IsThis, InOwnCell}
use Rattle.rhai_assign.proofs.Going.{this_fails, this_found}
use Rattle.rhai_assign.proofs.this.assign_this.Goals as goal

pub returns-in-Ok-None-clause-runs : goal.returns-in-Ok-None-clause-runs
returns-in-Ok-None-clause-runs g c scope focus =
    let rules : Rules _ _ = under g.H.Host.name_of c.args.session.now g.T.NativeTable.natives in
    let old : State _ _ = state_of (g.T.NativeTable.state c.args.table.now) c.args.global.now scope
    (record { this = Some c.args.this.now; focus = focus }) in
    let new : State _ _ = state_of (g.T.NativeTable.state c.assign_lent.new.table) c.assign_lent.new.global scope
    (record { this = Some c.assign_lent.new.target; focus = focus }) in
    let found : IsThis c.args.this.now (this_target (cells_of c.args.global.now.cells) c.args.pos (Some c.args.this.now)) =
    rw c.in-Ok-None.field-0-is at c.in-Ok-None.ensures in
    this_found rules c.args.op c.args.pos c.args.value old new (target InThis c.args.this.now) c.assign_lent.result found.is
    (c.assign_lent.ensures.runs scope (record { this = Some c.args.this.now; focus = focus }) no_path [] InThis refl)

pub returns-in-Ok-Some-clause-runs : goal.returns-in-Ok-Some-clause-runs
returns-in-Ok-Some-clause-runs g c scope focus =
    let rules : Rules _ _ = under g.H.Host.name_of c.args.session.now g.T.NativeTable.natives in
    let old : State _ _ = state_of (g.T.NativeTable.state c.args.table.now) c.args.global.now scope
    (record { this = Some c.args.this.now; focus = focus }) in
    let new : State _ _ = state_of (g.T.NativeTable.state c.assign_in_cell.new.table) c.assign_in_cell.new.global scope
    (record { this = Some c.args.this.now; focus = focus }) in
    let found : InOwnCell c.in-Ok-Some.id (cells_of c.args.global.now.cells)
    (this_target (cells_of c.args.global.now.cells) c.args.pos (Some c.args.this.now)) =
    rw c.in-Ok-Some.field-0-is at c.in-Ok-Some.ensures in
    this_found rules c.args.op c.args.pos c.args.value old new (target (InCell c.in-Ok-Some.id.number) found.value)
    c.assign_in_cell.result found.is
    (c.assign_in_cell.ensures.runs scope (record { this = Some c.args.this.now; focus = focus }) no_path [] found.value
    found.there)

pub returns-in-Err-clause-runs : goal.returns-in-Err-clause-runs
returns-in-Err-clause-runs g c scope focus =
    let rules : Rules _ _ = under g.H.Host.name_of c.args.session.now g.T.NativeTable.natives in
    this_fails rules c.args.op c.args.pos c.args.value
    (state_of (g.T.NativeTable.state c.args.table.now) c.args.global.now scope (record { this = Some c.args.this.now; focus = focus }))
    c.in-Err.error c.in-Err.ensures
