-- A native over pairs answers as it does without a counter, and leaves the counter.
use Rattle.std.proofs.Common.{◌≡◌, ℤ, Option, Some, None, refl}
use Rattle.std.specs.Option.{option_map}
use Rattle.rhai_natives.specs.declared.response.Response.{Response}
use Rattle.rhai_natives.specs.Responses.{AreAnswered, done, response_of, state_after}
use Rattle.rhai_tables.specs.declared.host.Pair.{Pair}

module _ (counter : ℤ) where
  pub answered : (got wanted : Option (Response Pair)) → AreAnswered got wanted →
      AreAnswered got (option_map response_of (option_map (λ r. done r counter) wanted))
  answered got None same = same
  answered got (Some r) same = same

  pub counter_stays : (wanted : Option (Response Pair)) → counter ≡ state_after counter (option_map (λ r. done r counter) wanted)
  counter_stays None = refl
  counter_stays (Some r) = refl
