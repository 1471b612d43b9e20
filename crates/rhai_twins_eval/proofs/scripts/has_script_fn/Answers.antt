use Rattle.std.proofs.Common.{sym, ◌∙◌}
use Rattle.rhai_twins_eval.proofs.scripts.has_script_fn.Goals as goal

pub returns-clause-on : goal.returns-clause-on
returns-clause-on g c same = c.has_script_fn.ensures.caches.on ∙ same ∙ sym c.has_script_fn-2.ensures.caches.on
