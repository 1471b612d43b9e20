use Rattle.std.proofs.Common.{ap, sym, ◌∙◌}
use Rattle.rhai_lookups.specs.Levels.{below_of, is_on}
use Rattle.rhai_twins.proofs.run.given.Goals as goal

pub returns-clause-below : goal.returns-clause-below
returns-clause-below g c =
    c.give_state.ensures.caches.below ∙ ap below_of c.requires.caches ∙ sym c.give_state-2.ensures.caches.below

pub returns-clause-on : goal.returns-clause-on
returns-clause-on g c =
    c.give_state.ensures.caches.on ∙ ap is_on c.requires.caches ∙ sym c.give_state-2.ensures.caches.on
