use Rattle.rhai_machine.specs.language.Runs.{Goes}
use Rattle.rhai_steps.specs.Sessions.{under}
use Rattle.rhai_steps.specs.States.{holding}
use Rattle.rhai_steps.proofs.Pieces.{told}
use Rattle.rhai_calls.specs.Called.{with_args}
use Rattle.rhai_callees.proofs.Going.{linked_goes}
use Rattle.rhai_callees.proofs.pointers.use_pointer.Goals as goal

pub returns-in-Curry-clause-runs : goal.returns-in-Curry-clause-runs
unfolding Goes
returns-in-Curry-clause-runs g c k =
    let rules = under g.H.Host.name_of c.args.session.now g.T.NativeTable.natives in
    rw c.in-Curry.is (told rules _ _ c.with_curried.ensures k _)

pub returns-in-Linked-clause-runs : goal.returns-in-Linked-clause-runs
unfolding Goes
returns-in-Linked-clause-runs g c k =
    let rules = under g.H.Host.name_of c.args.session.now g.T.NativeTable.natives in
    rw c.in-Linked.is
    (linked_goes rules c.in-Linked.function c.args.pos c.in-Linked.curried c.args.values.now _
    (with_args c.call_function.result c.call_function.new.args) c.call_function.ensures k)

pub returns-in-Number-clause-runs : goal.returns-in-Number-clause-runs
unfolding Goes
returns-in-Number-clause-runs g c k =
    rw c.in-Number.is
    (c.call_number.ensures.runs c.args.run.now.scope (holding c.args.run.now.this) k)
