use Rattle.rhai_natives.proofs.table.call_with.Goals as goal

pub returns-clause-left : goal.returns-clause-left
returns-clause-left g c = rw c.in-Some.is (c.answer_of_response-answer.result.1, c.apply.ensures)
