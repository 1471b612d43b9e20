use Rattle.std.proofs.Common.{ap, ◌∙◌}
use Rattle.rhai_lookups.specs.declared.run.RunState.{RunState}
use Rattle.rhai_bodies.proofs.opening.leave_surroundings.Goals as goal

pub returns-clause-state : goal.returns-clause-state
returns-clause-state g c = rw c.close_cache.ensures at c.take_back.ensures.state

pub returns-clause-search : goal.returns-clause-search
returns-clause-search g c =
    c.take_back.ensures.search ∙ ap (λ (global : RunState _). global.always_search_scope) c.close_cache.ensures
