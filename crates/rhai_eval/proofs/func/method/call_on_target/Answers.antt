use Rattle.std.proofs.Common.{false}
use Rattle.rhai_machine.specs.language.Methods.{Method}
use Rattle.rhai_machine.specs.language.Setting.{Rules}
use Rattle.rhai_steps.specs.States.{state_of}
use Rattle.rhai_steps.specs.OnFocus.{lending}
use Rattle.rhai_eval_core.specs.States.{under}
use Rattle.rhai_spots.specs.declared.part.Part.TheVariants as part
use Rattle.rhai_eval.proofs.OnTargets.{alone, answer_memory, part_runs}
use Rattle.rhai_eval.proofs.func.method.call_on_target.Goals as goal

pub returns-in-Whole-clause-runs : goal.returns-in-Whole-clause-runs
returns-in-Whole-clause-runs g c scope held = rw c.in-Whole.is
    (rw (c.is_shared-is_handle.ensures, c.in-Whole.is, ← c.finish_changed.ensures) at
    (c.run_method-mark.ensures.runs scope held))

pub returns-in-Temporary-clause-runs : goal.returns-in-Temporary-clause-runs
returns-in-Temporary-clause-runs g c scope held = rw c.in-Temporary.is
    (rw (c.is_shared-is_handle.ensures, c.in-Temporary.is, ← c.finish_changed-in-Temporary.ensures) at
    (c.run_method-mark-in-Temporary.ensures.runs scope held))

pub returns-in-Of-clause-runs : goal.returns-in-Of-clause-runs
returns-in-Of-clause-runs g c scope held =
    let rules : Rules _ _ = under g.H.Host.name_of c.args.evaluator.now g.T.NativeTable.natives in
    let method : Method = record { name = c.args.name.now; at = c.args.pos; first_at = c.args.first; was_handle = false } in
    rw (c.in-Of.is, c.put_back.ensures.part) (part_runs rules method c.args.args.now c.in-Of.field-0 c.args.target.now.at.now c.in-Of.value
    c.run_method-mark-in-Of.new.focus c.put_back.new.target.at.now
    (state_of (g.T.NativeTable.state c.args.table.now) c.args.run.now.global scope (lending held c.in-Of.value))
    (state_of (g.T.NativeTable.state c.run_method-mark-in-Of.new.table) c.run_method-mark-in-Of.new.run.global scope
    (lending held c.run_method-mark-in-Of.new.focus))
    c.finish_changed-answer.result c.put_back.result
    (rw (c.is_shared-is_handle.ensures, c.in-Of.is, ← c.finish_changed-answer.ensures) at
    (c.run_method-mark-in-Of.ensures.runs scope held)) c.put_back.ensures.comes)

pub returns-in-Whole-clause-shows : goal.returns-in-Whole-clause-shows
returns-in-Whole-clause-shows g c scope held memory = rw c.in-Whole.is
    (alone (under g.H.Host.name_of c.args.evaluator.now g.T.NativeTable.natives) _ _ _ _
    (rw (c.is_shared-is_handle.ensures, c.in-Whole.is, ← c.finish_changed.ensures) at
    (c.run_method-mark.ensures.runs scope held)) memory)

pub returns-in-Temporary-clause-shows : goal.returns-in-Temporary-clause-shows
returns-in-Temporary-clause-shows g c scope held memory = rw c.in-Temporary.is
    (alone (under g.H.Host.name_of c.args.evaluator.now g.T.NativeTable.natives) _ _ _ _
    (rw (c.is_shared-is_handle.ensures, c.in-Temporary.is, ← c.finish_changed-in-Temporary.ensures) at
    (c.run_method-mark-in-Temporary.ensures.runs scope held)) memory)

pub returns-in-Of-clause-shows : goal.returns-in-Of-clause-shows
returns-in-Of-clause-shows g c scope held memory = rw (c.in-Of.is, c.put_back.ensures.part)
    (alone (under g.H.Host.name_of c.args.evaluator.now g.T.NativeTable.natives) _ _ _ _
    (rw (c.is_shared-is_handle.ensures, c.in-Of.is, ← c.finish_changed-answer.ensures) at
    (c.run_method-mark-in-Of.ensures.runs scope held))
    (answer_memory g.H.Host.name_of (part.Of c.in-Of.field-0 c.run_method-mark-in-Of.new.focus) c.args.target.now.at.now c.args.pos
    c.finish_changed-answer.result c.put_back.result c.put_back.new.target.at.now c.put_back.ensures.comes memory))
