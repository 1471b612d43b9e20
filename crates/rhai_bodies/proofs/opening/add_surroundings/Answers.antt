use Rattle.std.proofs.Common.{OnErr, Ok, Err, ◌≡◌}
use Rattle.rhai_bodies.specs.Closing.{taken_back}
use Rattle.rhai_bodies.specs.Opening.{exit_seen}
use Rattle.rhai_bodies.proofs.opening.add_surroundings.Goals as goal

pub returns-in_err-bring-clause-state_back : goal.returns-in_err-bring-clause-state_back
returns-in_err-bring-clause-state_back g c = let back = c.in_err-bring.ensures.err c.args.scope.now in
    elim c.from_residual.result
    as (λ r. OnErr r (taken_back (exit_seen c.args.global.now c.args.scope.now) c.bring.new.global ≡ c.args.global.now)) [
      | Ok v ↦ tt
      | Err e ↦ back
    ]
