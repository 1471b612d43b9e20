use Rattle.rhai_eval_steps.proofs.NameLemmas.{first_suits}
use Rattle.rhai_bench.proofs.entering.enter_list.Goals as goal

pub attempt_part-requires : goal.attempt_part-requires
attempt_part-requires c = first_suits c.in-Some-split.last.now _ (rw c.in-Some-split.ensures at c.each_statement.invariant)
