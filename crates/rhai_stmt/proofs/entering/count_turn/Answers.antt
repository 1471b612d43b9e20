use Rattle.std.proofs.Common.{None, rules}
use Rattle.rhai_values.specs.Cells.{cells_of}
use Rattle.rhai_state.specs.Scope.{entries_of}
use Rattle.rhai_machine.specs.language.Frames.{ForItem, core}
use Rattle.rhai_steps.specs.States.{holding, local_of}
use Rattle.rhai_stmt.specs.Loops.{loop_in}
use Rattle.rhai_stmt.specs.Variables.{seen_as}
use Rattle.rhai_stmt.proofs.TurnLemmas.{counter_not, counter_written, names_kept}
use Rattle.rhai_stmt.proofs.entering.count_turn.Goals as goal

pub returns-clause-names : goal.returns-clause-names
returns-clause-names g c =
    let l = local_of c.args.global.now c.args.scope.now (holding None) in
    names_kept _ l _ _ c.write_variable.result c.write_variable.new.place _ (c.write_variable.ensures.wrote l)
    c.write_variable.ensures.scope

pub returns-clause-counted : goal.returns-clause-counted
returns-clause-counted g c item rest k l well =
    let before = seen_as (entries_of c.args.scope.now) (cells_of c.args.global.now.cells) l in
    rw c.in-Some.ensures.fits
    (counter_written c.new-number.result before _ _ c.write_variable.result c.write_variable.new.place c.args.parts.counter.now
    c.in-Some-counter.counter (loop_in c.args.parts) c.args.turn c.args.base
    (λ m. core (ForItem (loop_in c.args.parts) item rest c.args.turn c.args.base) k m) k c.in-Some-counter.is (search rules)
    (c.write_variable.ensures.wrote l) well)

pub returns-clause-refused : goal.returns-clause-refused
returns-clause-refused g c item rest k l failed memory =
    let before = seen_as (entries_of c.args.scope.now) (cells_of c.args.global.now.cells) l in
    rw c.in-Some.ensures.fits
    (counter_not c.new-number.result before _ _ c.write_variable.result c.write_variable.new.place c.args.parts.counter.now
    c.in-Some-counter.counter (loop_in c.args.parts) c.args.turn c.args.base
    (λ m. core (ForItem (loop_in c.args.parts) item rest c.args.turn c.args.base) k m) k c.in-Some-counter.is (search rules)
    (c.write_variable.ensures.wrote l) failed memory)
