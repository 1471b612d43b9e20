use Rattle.std.specs.Prelude.{◌≡◌, ◌≤◌, ◌-◌, take, map, length}
use Rattle.rhai_functions.proofs.metadata.params_of.Given as goal

abbrev pub invariant-params : goal.invariant-params
invariant-params l = (map (λ p. p.now) l.params.items ≡ take l.at l.def.params) × (l.at ≤ length l.def.params)

abbrev pub decreases-params : goal.decreases-params
decreases-params l = length l.def.params - l.at
