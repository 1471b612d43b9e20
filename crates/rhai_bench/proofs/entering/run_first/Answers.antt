use Rattle.std.proofs.Common.{sym, ◌∙◌, arith}
use Rattle.rhai_eval_steps.proofs.NameLemmas.{first_suits, rest_suits}
use Rattle.rhai_bench.proofs.entering.run_first.Goals as goal

pub run-requires : goal.run-requires
run-requires c = first_suits c.in-Some.first.now c.in-Some.rest.now (rw c.in-Some.ensures at c.requires)

pub returns-clause-resolves : goal.returns-clause-resolves
returns-clause-resolves c = rest_suits c.in-Some.first.now c.in-Some.rest.now
    (c.in_ok-value.ensures.leads (sym c.is_an_import.ensures ∙ c.if-is_an_import.false)) (rw c.in-Some.ensures at c.requires)

pub returns-clause-shorter : goal.returns-clause-shorter
returns-clause-shorter c = rw c.in-Some.ensures (omega arith)
