use Rattle.std.proofs.Common.{ap, sym}
use Rattle.rhai_machine.specs.language.Setting.{Rules}
use Rattle.rhai_machine.specs.language.Frames.{Assignment}
use Rattle.rhai_machine.specs.language.Places.{target}
use Rattle.rhai_machine.specs.language.State.{Local, State}
use Rattle.rhai_steps.specs.Sessions.{under}
use Rattle.rhai_steps.specs.States.{state_of}
use Rattle.rhai_assign.specs.Lending.{placed}
use Rattle.rhai_assign.proofs.Lent.{put_twice}
use Rattle.rhai_assign.proofs.Updates.{by_operator, writes}
use Rattle.rhai_assign.proofs.update.assign_lent.Goals as goal

pub returns-in-Some-clause-runs : goal.returns-in-Some-clause-runs
returns-in-Some-clause-runs g c scope held path name place from =
    let rules : Rules _ _ = under g.H.Host.name_of c.args.session.now g.T.NativeTable.natives in
    let assignment : Assignment = record { path = path; name = name; at = c.args.pos; op = c.args.op } in
    by_operator rules assignment (target place c.args.target.now) c.args.value
    (placed place c.args.target.now (state_of (g.T.NativeTable.state c.args.table.now) c.args.global.now scope held))
    (placed place c.update.new.target (state_of (g.T.NativeTable.state c.update.new.table) c.update.new.global scope held)) c.update.result
    c.in-Some.token c.in-Some.is (c.update.ensures.runs scope held place from)

pub returns-in-None-clause-runs : goal.returns-in-None-clause-runs
returns-in-None-clause-runs g c scope held path name place from =
    let rules : Rules _ _ = under g.H.Host.name_of c.args.session.now g.T.NativeTable.natives in
    let assignment : Assignment = record { path = path; name = name; at = c.args.pos; op = c.args.op } in
    let old : State _ _ = state_of (g.T.NativeTable.state c.args.table.now) c.args.global.now scope held in
    rw (c.unit_value.ensures, c.replace.ensures.after, c.set_access_mode.ensures) (writes rules assignment
    (target place c.args.target.now) c.args.value (placed place c.args.target.now old) _ c.in-None.is
    (ap (λ (l : Local _). record old { local = l }) (sym (put_twice place c.args.target.now _ old.local))))
