use Rattle.std.specs.Prelude.{◌≡◌, ◌≤◌, ◌-◌, ◌++◌, drop, length, map, take}
use Rattle.rhai_state.specs.Scope.{entries_of}
use Rattle.rhai_functions.specs.Entering.{parameters, unit}
use Rattle.rhai_functions.proofs.entering.push_parameters.Given as goal

abbrev pub invariant-params : goal.invariant-params
invariant-params g l = record {
  pushed : entries_of l.scope ++ parameters (drop l.at l.params) (drop l.at l.args)
      ≡ entries_of l.fn.scope ++ parameters l.params l.fn.args;
  begins : take (length (entries_of l.fn.scope)) (entries_of l.scope) ≡ entries_of l.fn.scope;
  within : l.at ≤ length l.params;
  args : length l.args ≡ length l.fn.args;
  left : l.args ≡ map (λ v. unit) (take l.at l.fn.args) ++ drop l.at l.fn.args;
}

abbrev pub decreases-params : goal.decreases-params
decreases-params g l = length l.params - l.at
