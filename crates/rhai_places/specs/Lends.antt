-- What becomes of a value whose place was lent, once the borrow has ended.
use Rattle.std.specs.Prelude.{◌≡◌, Result, Ok, Err, IsOk, OnErr}
use Rattle.std.specs.Borrow.{Lends, follows_so, MutBor, RattleType, Fml, GName}
use mathlib.Core.Option as maybe
use Rattle.rhai_values.specs.contracts.base.value.Dynamic as dynamic
use Rattle.rhai_values.specs.contracts.base.value.Union as union
use Rattle.rhai_values.specs.declared.base.value.Dynamic.{Dynamic}
use Rattle.rhai_errors.specs.declared.error.EvalAltResult.{EvalAltResult}
use Rattle.rhai_spots.specs.declared.spot.Spot.{Spot}
use Rattle.rhai_values.specs.declared.base.value.Union.{Union, out-Union}
use Rattle.rhai_places.specs.declared.target.Target.{Target}
use Rattle.rhai_spots.specs.Parts.{with_value_in}
use Rattle.rhai_spots.specs.Found.{EndsBy}
use Rattle.rhai_spots.specs.Targets.{with_place}

module _ (H : RattleType) where
  -- the place that is lent ends with what it was changed to
  abbrev pub lends_place : MutBor (Union H.Denot) → Spot → MutBor (Dynamic H.Denot) → Fml
  lends_place s at r = Lends (union.the_row H) (dynamic.the_row H) s r (with_value_in s.now (out-Union H.Denot s.now) at)

  -- the place that a result borrows
  abbrev pub result_name : Result (Target H.Denot) (EvalAltResult H.Denot) → maybe.Option GName
  result_name (Ok t) = maybe.some t.at.ghost_name
  result_name (Err e) = maybe.none

  -- the place of a target ends with what it was changed to, and at an error the value stays
  abbrev pub lends_spot : MutBor (Dynamic H.Denot) → Spot → Result (Target H.Denot) (EvalAltResult H.Denot) → Fml
  lends_spot s at r = follows_so (dynamic.the_row H) (dynamic.the_row H) s.ghost_name (result_name r)
      (λ x n. IsOk r → n ≡ with_place s.now at x) (λ n. OnErr r (n ≡ s.now))

  -- the place of a target that was found ends with what it was changed to, and at an error the value stays
  abbrev pub lends_found : MutBor (Dynamic H.Denot) → Result (Dynamic H.Denot × Spot) (EvalAltResult H.Denot) →
      Result (Target H.Denot) (EvalAltResult H.Denot) → Fml
  lends_found s found r = follows_so (dynamic.the_row H) (dynamic.the_row H) s.ghost_name (result_name r)
      (λ x n. IsOk r → EndsBy found x n) (λ n. OnErr r (n ≡ s.now))
