use Rattle.std.proofs.Common.{refl, ◌∙◌}
use Rattle.rhai_eval.proofs.eval.search.value_behind.Goals as goal

pub value_in_run-found-requires : goal.value_in_run-found-requires
value_in_run-found-requires g c =
    rw c.lend_state-run.ensures.run
    (record { variable = c.requires.variable; behind = c.requires.behind; fits = c.requires.fits })

pub returns-clause-found : goal.returns-clause-found
returns-clause-found g c = rw c.lend_state-run.ensures.run at c.value_in_run-found.ensures

pub returns-clause-same : goal.returns-clause-same
returns-clause-same g c =
    c.return_state.ensures ∙ (rw (c.lend_state-run.ensures.run, c.lend_state-run.ensures.search) refl)
