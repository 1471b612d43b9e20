use Rattle.std.proofs.Common.{ap, sym, ◌∙◌, Ok, Some}
use Rattle.rhai_values.specs.Cells.{cells_of}
use Rattle.rhai_steps.specs.Operations.{operation_of}
use Rattle.rhai_fast_calls.proofs.Steps.{number_told}
use Rattle.rhai_fast_calls.proofs.at_once.settle_answer.Goals as goal

pub returns-in-Ok-clause-told : goal.returns-in-Ok-clause-told
returns-in-Ok-clause-told g c =
    let (given, number, is) = c.in-Ok.ensures.number in
    rw (given, is)
    (λ memory. ap Ok (c.put_number.ensures ∙ is)
    ∙ sym (number_told g.row.H.Denot c.args.session.now.limits g.H.Host.name_of number (Some c.args.first.now) c.args.rest.now
    (operation_of c.args.operation.now) (cells_of c.args.cells.now)))

pub returns-clause-told : goal.returns-clause-told
returns-clause-told g c = rw c.settle.ensures (rw c.in-Err.ensures.other at c.replied-answered.ensures.told)
