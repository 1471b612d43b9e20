use Rattle.rhai_eval_steps.proofs.NameLemmas.{suits_now}
use Rattle.rhai_bench.proofs.entering.enter_last.Goals as goal

pub enter_list-answer-requires : goal.enter_list-answer-requires
enter_list-answer-requires c = rw c.statements.ensures.value (suits_now _ _ (c.statements.ensures.resolves _))
