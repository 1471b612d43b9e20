-- An index leads to one target, or is refused for one reason.
use Rattle.std.proofs.Common.{◌≡◌, Result, Ok, Err, MatchResult, sym, subst, ◌∙◌}
use Rattle.rhai_values.specs.declared.base.value.Dynamic.{Dynamic}
use Rattle.rhai_errors.specs.declared.error.EvalAltResult.{EvalAltResult}
use Rattle.rhai_spots.specs.declared.spot.Spot.{Spot}
use Rattle.rhai_places.specs.declared.target.Target.{Target}
use Rattle.rhai_spots.specs.Found.{IsFound, IsMissed}
use Rattle.rhai_twins.specs.Ends.{SameTarget, EndsOnce}

module _ {H : Type 0} where
  abbrev Leads : Result (Dynamic H × Spot) (EvalAltResult H) → Result (Target H) (EvalAltResult H) → Type 0
  Leads found r = MatchResult r (λ t. IsFound found t.at.now t.part) (λ e. IsMissed found e)

  pub found_once : (found : Result (Dynamic H × Spot) (EvalAltResult H)) (r s : Result (Target H) (EvalAltResult H)) → Leads found r →
      Leads found s → SameTarget r s
  found_once (Ok (source, at)) (Ok t) (Ok u) one other = let a = one.0 in let b = other.0 in (cc, one.1 ∙ sym other.1)
  found_once (Ok there) (Ok t) (Err f) one other = other
  found_once (Ok there) (Err e) (Ok u) one other = one
  found_once (Ok there) (Err e) (Err f) one other = λ e_told f_told. absurd (let wanted = one in cc)
  found_once (Err told) (Ok t) (Ok u) one other = absurd one
  found_once (Err told) (Ok t) (Err f) one other = absurd one
  found_once (Err told) (Err e) (Ok u) one other = absurd other
  found_once (Err told) (Err e) (Err f) one other = λ e_told f_told. one e_told ∙ sym (other f_told)

  -- the same of two values that are equal
  pub found_from : (by : Dynamic H → Result (Dynamic H × Spot) (EvalAltResult H)) (x y : Dynamic H)
      (r s : Result (Target H) (EvalAltResult H)) → x ≡ y → Leads (by x) r → Leads (by y) s → SameTarget r s
  found_from by x y r s same one other =
      let P : Dynamic H → Type 0 = λ z. Leads (by z) s in
      found_once (by x) r s one (subst P (sym same) other)

pub ends_once : (H : Type 0) → EndsOnce H
ends_once H (Ok there) place one other a b = a ∙ sym b
ends_once H (Err told) place one other a b = absurd a
