use Rattle.rhai_spots.specs.Targets.{shown}
use Rattle.rhai_calls.specs.Targets.{value_walked_on}
use Rattle.rhai_eval.specs.States.{under}
use Rattle.rhai_fits_eval.proofs.Targets.{assignment_again, assignment_shows}
use Rattle.rhai_fits_eval.proofs.calls.eval_op_assignment.Goals as goal

pub returns-clause-fits : goal.returns-clause-fits
returns-clause-fits g c scope this = let a = c.args in
    let after = c.eval_op_assignment.new.target in
    assignment_again (under g.H.Host.name_of a.engine.now g.T.NativeTable.natives) _ _ _ g.met.T.NativeTable.lawful
    c.requires.sealed (c.eval_op_assignment.ensures.kept scope this).around
    a.target.now.part a.target.now.at.now (value_walked_on after.part after.at.now) a.root.now
    (record { op = a.op_info.now; value = a.new_val }) c.requires.value c.eval_op_assignment.result
    (c.eval_op_assignment.ensures.ends scope this)

pub returns-clause-shown : goal.returns-clause-shown
returns-clause-shown g c scope this memory = let a = c.args in
    let after = c.eval_op_assignment.new.target in
    assignment_shows (under g.H.Host.name_of a.engine.now g.T.NativeTable.natives) _ _ _ g.met.T.NativeTable.lawful
    c.requires.sealed (c.eval_op_assignment.ensures.kept scope this).around
    a.target.now.part a.target.now.at.now (shown after.part after.at.now) a.root.now
    (record { op = a.op_info.now; value = a.new_val }) c.requires.value (c.eval_op_assignment.ensures.shows scope this memory)
