use Rattle.rhai_machine.specs.language.Frames.{NewValue}
use Rattle.rhai_machine.specs.language.Setting.{Rules}
use Rattle.rhai_steps.specs.Sessions.{under}
use Rattle.rhai_steps.specs.States.{state_of}
use Rattle.rhai_steps.specs.OnFocus.{lending}
use Rattle.rhai_eval.proofs.Assigned.{value_follows}
use Rattle.rhai_eval.proofs.eval.stmt.assign_value.Goals as goal

pub returns : goal.returns
returns g c = record {
  follows = λ scope held.
      let rules : Rules _ _ = under g.H.Host.name_of c.args.session.now g.T.NativeTable.natives in
      let new : NewValue _ = record { op = c.args.op; value = c.args.value } in
      value_follows rules c.args.root.now new
      (state_of (g.T.NativeTable.state c.args.table.now) c.args.global.now scope (lending held c.args.place.now))
      (state_of (g.T.NativeTable.state c.assign_focus-answer.new.table) c.assign_focus-answer.new.global scope
      (lending held c.assign_focus-answer.new.target))
      c.assign_focus-answer.result c.without_answer.result c.without_answer.ensures
      (c.assign_focus-answer.ensures.runs scope held);
}
