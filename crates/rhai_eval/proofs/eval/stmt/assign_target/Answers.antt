use Rattle.rhai_machine.specs.language.Frames.{NewValue}
use Rattle.rhai_machine.specs.language.Setting.{Rules}
use Rattle.rhai_steps.specs.Sessions.{under}
use Rattle.rhai_steps.specs.States.{state_of}
use Rattle.rhai_steps.specs.OnFocus.{lending}
use Rattle.rhai_spots.specs.declared.part.Part.TheVariants as part
use Rattle.rhai_eval.specs.Assigned.{assigned}
use Rattle.rhai_eval.proofs.Assigned.{assigned_alone, assigned_memory, part_follows}
use Rattle.rhai_eval.proofs.OnTargets.{answer_memory}
use Rattle.rhai_eval.proofs.eval.stmt.assign_target.Goals as goal

pub returns-in-Whole-clause-follows : goal.returns-in-Whole-clause-follows
returns-in-Whole-clause-follows g c scope held = rw c.in-Whole.is (c.assign_value.ensures.follows scope held)

pub returns-in-Temporary-clause-follows : goal.returns-in-Temporary-clause-follows
returns-in-Temporary-clause-follows g c scope held =
    rw c.in-Temporary.is (c.assign_value-in-Temporary.ensures.follows scope held)

pub returns-in-Of-clause-follows : goal.returns-in-Of-clause-follows
returns-in-Of-clause-follows g c scope held =
    let rules : Rules _ _ = under g.H.Host.name_of c.args.session.now g.T.NativeTable.natives in
    let new : NewValue _ = record { op = c.args.op; value = c.args.value } in
    rw (c.in-Of.is, c.put_assigned.ensures.part) (part_follows rules c.args.root.now new c.in-Of.field-0 c.args.target.now.at.now
    c.in-Of.shown c.assign_value-outcome.new.place c.put_assigned.new.target.at.now
    (state_of (g.T.NativeTable.state c.args.table.now) c.args.global.now scope (lending held c.in-Of.shown))
    (state_of (g.T.NativeTable.state c.assign_value-outcome.new.table) c.assign_value-outcome.new.global scope
    (lending held c.assign_value-outcome.new.place))
    c.assign_value-outcome.result c.put_assigned.result (c.assign_value-outcome.ensures.follows scope held)
    c.put_assigned.ensures.comes)

pub returns-in-Whole-clause-shows : goal.returns-in-Whole-clause-shows
returns-in-Whole-clause-shows g c scope held memory = rw c.in-Whole.is
    (assigned_alone (under g.H.Host.name_of c.args.session.now g.T.NativeTable.natives) _ _ _ (assigned c.assign_value.result)
    (c.assign_value.ensures.follows scope held) (assigned_memory c.assign_value.result memory))

pub returns-in-Temporary-clause-shows : goal.returns-in-Temporary-clause-shows
returns-in-Temporary-clause-shows g c scope held memory = rw c.in-Temporary.is
    (assigned_alone (under g.H.Host.name_of c.args.session.now g.T.NativeTable.natives) _ _ _
    (assigned c.assign_value-in-Temporary.result) (c.assign_value-in-Temporary.ensures.follows scope held)
    (assigned_memory c.assign_value-in-Temporary.result memory))

pub returns-in-Of-clause-shows : goal.returns-in-Of-clause-shows
returns-in-Of-clause-shows g c scope held memory = rw (c.in-Of.is, c.put_assigned.ensures.part)
    (assigned_alone (under g.H.Host.name_of c.args.session.now g.T.NativeTable.natives) _ _ _
    (assigned c.assign_value-outcome.result) (c.assign_value-outcome.ensures.follows scope held)
    (answer_memory g.H.Host.name_of (part.Of c.in-Of.field-0 c.assign_value-outcome.new.place) c.args.target.now.at.now c.args.op.position
    (assigned c.assign_value-outcome.result) (assigned c.put_assigned.result) c.put_assigned.new.target.at.now
    c.put_assigned.ensures.comes (assigned_memory c.put_assigned.result memory)))
