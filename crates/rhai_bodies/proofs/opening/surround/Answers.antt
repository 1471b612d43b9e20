use Rattle.std.proofs.Common.{ap, refl, ◌∙◌}
use Rattle.std.proofs.Math.Seq.{take-length}
use Rattle.rhai_lookups.specs.declared.run.RunState.{RunState}
use Rattle.rhai_bodies.proofs.opening.surround.Goals as goal

pub returns-then-not-has_cache-clause-state_back : goal.returns-then-not-has_cache-clause-state_back
returns-then-not-has_cache-clause-state_back g c =
    rw (c.open_cache.ensures, take-length c.args.global.now.lists.0, take-length c.args.global.now.lists.1) refl

pub returns-then-not-has_cache-clause-search : goal.returns-then-not-has_cache-clause-search
returns-then-not-has_cache-clause-search g c = ap (λ (global : RunState _). global.always_search_scope) c.open_cache.ensures

pub returns-in-Ok-clause-state : goal.returns-in-Ok-clause-state
returns-in-Ok-clause-state g c = rw c.open_cache.ensures at c.in-Ok.ensures.state

pub returns-in-Ok-clause-search : goal.returns-in-Ok-clause-search
returns-in-Ok-clause-search g c =
    c.add_surroundings.ensures.search ∙ ap (λ (global : RunState _). global.always_search_scope) c.open_cache.ensures

pub returns-in-Err-clause-state_back : goal.returns-in-Err-clause-state_back
returns-in-Err-clause-state_back g c = rw c.close_cache.ensures (rw c.open_cache.ensures at c.in-Err.ensures.state_back)

pub returns-in-Err-clause-search : goal.returns-in-Err-clause-search
returns-in-Err-clause-search g c =
    ap (λ (global : RunState _). global.always_search_scope) c.close_cache.ensures
    ∙ c.add_surroundings.ensures.search ∙ ap (λ (global : RunState _). global.always_search_scope) c.open_cache.ensures
