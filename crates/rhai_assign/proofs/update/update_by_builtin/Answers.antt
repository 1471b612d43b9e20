use Rattle.std.proofs.Common.{refl}
use Rattle.rhai_operators.specs.Answers.{op_assign_of}
use Rattle.rhai_machine.specs.language.Setting.{Rules}
use Rattle.rhai_machine.specs.language.Places.{put}
use Rattle.rhai_machine.specs.language.Frames.{InPlace, Update}
use Rattle.rhai_steps.specs.Sessions.{under}
use Rattle.rhai_steps.specs.States.{local_of, state_of}
use Rattle.rhai_assign.specs.Lending.{placed}
use Rattle.rhai_assign.specs.Updates.{update_of}
use Rattle.rhai_assign.proofs.Updates.{built, left_lent, not_built}
use Rattle.rhai_assign.proofs.update.update_by_builtin.Goals as goal

pub returns-in-Some-clause-runs : goal.returns-in-Some-clause-runs
returns-in-Some-clause-runs g c scope held place from =
    let rules : Rules _ _ = under g.H.Host.name_of c.args.session.now g.T.NativeTable.natives in
    let u : Update _ = update_of c.args.update InPlace place c.args.target.now c.args.operand in
    let l = local_of c.args.global.now scope held in
    built rules u c.builtin_op_assign.result (op_assign_of u.operator u.target c.args.operand) c.in-Some.outcome
    c.builtin_op_assign.ensures.value c.in-Some.is (g.T.NativeTable.state c.args.table.now) c.args.global.now.num_operations
    c.args.global.now.num_operations refl (put place c.args.target.now l) (put place c.write_lent.new.target l) c.write_lent.result
    (c.write_lent.ensures.written place l) (left_lent place c.args.target.now c.write_lent.new.target l c.write_lent.result
    c.write_lent.ensures.left)

pub returns-in-None-clause-runs : goal.returns-in-None-clause-runs
returns-in-None-clause-runs g c scope held place from =
    let rules : Rules _ _ = under g.H.Host.name_of c.args.session.now g.T.NativeTable.natives in
    let u : Update _ = update_of c.args.update InPlace place c.args.target.now c.args.operand in
    not_built rules c.builtin_op_assign.result (op_assign_of u.operator u.target c.args.operand) c.update_by_natives.result u
    (placed place c.args.target.now (state_of (g.T.NativeTable.state c.args.table.now) c.args.global.now scope held))
    (placed place c.update_by_natives.new.target
    (state_of (g.T.NativeTable.state c.update_by_natives.new.table) c.update_by_natives.new.global scope held))
    c.builtin_op_assign.ensures.value c.in-None.is (c.update_by_natives.ensures.runs scope held place from)
