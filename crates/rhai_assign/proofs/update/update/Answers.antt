use Rattle.std.proofs.Common.{Bool, ap, refl}
use Rattle.rhai_operators.specs.Answers.{op_assign_of}
use Rattle.rhai_machine.specs.language.Setting.{Rules}
use Rattle.rhai_machine.specs.language.Assignment.{if_fast, update_core}
use Rattle.rhai_machine.specs.language.Frames.{InPlace, Update}
use Rattle.rhai_machine.specs.language.State.{State}
use Rattle.rhai_steps.specs.Sessions.{offer_of, under}
use Rattle.rhai_steps.specs.States.{state_of}
use Rattle.rhai_assign.specs.Lending.{placed}
use Rattle.rhai_assign.specs.Updates.{update_of}
use Rattle.rhai_assign.proofs.Updates.{follows_alike, not_built, not_fast}
use Rattle.rhai_assign.proofs.update.update.Goals as goal

pub returns-then-fast-clause-runs : goal.returns-then-fast-clause-runs
returns-then-fast-clause-runs g c scope held place from =
    let rules : Rules _ _ = under g.H.Host.name_of c.args.session.now g.T.NativeTable.natives in
    let u : Update _ = update_of c.args.update InPlace place c.args.target.now c.args.operand in
    let answer = op_assign_of u.operator u.target c.args.operand in
    let old : State _ _ = placed place c.args.target.now (state_of (g.T.NativeTable.state c.args.table.now) c.args.global.now scope held) in
    follows_alike rules _ (update_core rules.setting answer u) old _ c.update_by_builtin.result
    (λ k. ap (λ (b : Bool). update_core rules.setting (if_fast b answer) u k old.local) c.if-fast.true)
    (c.update_by_builtin.ensures.runs scope held place from)

pub returns-else-fast-clause-runs : goal.returns-else-fast-clause-runs
returns-else-fast-clause-runs g c scope held place from =
    let rules : Rules _ _ = under g.H.Host.name_of c.args.session.now g.T.NativeTable.natives in
    let u : Update _ = update_of c.args.update InPlace place c.args.target.now c.args.operand in
    not_built rules (if_fast (offer_of c.args.session.now).fast_operators (op_assign_of u.operator u.target c.args.operand))
    (if_fast (offer_of c.args.session.now).fast_operators (op_assign_of u.operator u.target c.args.operand)) c.update_by_natives.result u
    (placed place c.args.target.now (state_of (g.T.NativeTable.state c.args.table.now) c.args.global.now scope held))
    (placed place c.update_by_natives.new.target
    (state_of (g.T.NativeTable.state c.update_by_natives.new.table) c.update_by_natives.new.global scope held))
    (λ m. refl) (not_fast (offer_of c.args.session.now).fast_operators _ c.if-fast.false)
    (c.update_by_natives.ensures.runs scope held place from)
