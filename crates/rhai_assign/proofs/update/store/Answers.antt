use Rattle.std.proofs.Common.{arith, ap}
use Rattle.rhai_values.specs.declared.base.value.AccessMode.TheVariants.{ReadWrite}
use Rattle.rhai_values.specs.Modes.{with_mode}
use Rattle.rhai_machine.specs.language.Setting.{Rules}
use Rattle.rhai_machine.specs.language.Frames.{Assignment}
use Rattle.rhai_machine.specs.language.Places.{target}
use Rattle.rhai_machine.specs.language.State.{Local}
use Rattle.rhai_steps.specs.Sessions.{under}
use Rattle.rhai_steps.specs.States.{state_of}
use Rattle.rhai_assign.specs.Targets.{place_in, standing_at}
use Rattle.rhai_assign.proofs.Places.{keeps_names, local_put}
use Rattle.rhai_assign.proofs.Updates.{by_operator, writes}
use Rattle.rhai_assign.proofs.update.store.Goals as goal

pub returns-in-None-clause-keeps : goal.returns-in-None-clause-keeps
returns-in-None-clause-keeps g c = record {
  counts = omega arith;
  names = keeps_names c.args.place c.set_access_mode.new.self c.args.scope.now c.put.new.scope c.args.global.now.cells c.put.new.cells
      c.put.ensures;
}

pub returns-in-Some-clause-runs : goal.returns-in-Some-clause-runs
returns-in-Some-clause-runs g c held path name =
    let rules : Rules _ _ = under g.H.Host.name_of c.args.session.now g.T.NativeTable.natives in
    let assignment : Assignment = record { path = path; name = name; at = c.args.pos; op = c.args.op } in
    by_operator rules assignment (target (place_in c.args.place) (standing_at c.args.place c.args.scope.now c.args.global.now.cells))
    c.args.value (state_of (g.T.NativeTable.state c.args.table.now) c.args.global.now c.args.scope.now held)
    (state_of (g.T.NativeTable.state c.update_at.new.table) c.update_at.new.global c.update_at.new.scope held) c.update_at.result
    c.in-Some.token c.in-Some.is (c.update_at.ensures.runs held)

pub returns-in-None-clause-runs : goal.returns-in-None-clause-runs
returns-in-None-clause-runs g c held path name =
    let rules : Rules _ _ = under g.H.Host.name_of c.args.session.now g.T.NativeTable.natives in
    let assignment : Assignment = record { path = path; name = name; at = c.args.pos; op = c.args.op } in
    rw c.unit_value.ensures (writes rules assignment
    (target (place_in c.args.place) (standing_at c.args.place c.args.scope.now c.args.global.now.cells)) c.args.value
    (state_of (g.T.NativeTable.state c.args.table.now) c.args.global.now c.args.scope.now held) _ c.in-None.is
    (ap (λ (l : Local _). record { table = g.T.NativeTable.state c.args.table.now; count = c.args.global.now.num_operations; local = l })
    (local_put c.args.place (with_mode ReadWrite c.args.value) c.args.global.now c.put.new.cells c.args.scope.now c.put.new.scope held
    (rw c.set_access_mode.ensures at c.put.ensures))))
