-- What a call with a first argument answers and leaves.
use Rattle.std.proofs.Common.{◌≡◌, ℕ, Bool, List, Option, Some, sym, ap, ◌∙◌, subst}
use Rattle.std.specs.Option.{option_map}
use Rattle.rhai_values.specs.declared.base.value.Dynamic.{Dynamic}
use Rattle.rhai_values.specs.declared.base.value.Union.{Union}
use Rattle.rhai_errors.specs.Native.{Request, Reply, HasNoHandle, Leaves, Obeys}
use Rattle.rhai_natives.specs.declared.listed.Found.{Found}
use Rattle.rhai_natives.specs.Law.{left_no_handle, list_leaves}
use Rattle.rhai_natives.specs.Found.{found, is_pure}
use Rattle.rhai_natives.specs.Listed.{Entry}
use Rattle.rhai_natives.specs.Responses.{Done}
use Rattle.rhai_natives.specs.Table.{IsLeft, changed, effect_of, natives_in}

-- where the place of the first argument, if there is one, was one of a value and has another as its loan ends
module _ {H : Type 0} {first after : Option (Dynamic H)} {was now : Dynamic H} (first_was : first ≡ Some was)
    (first_is : after ≡ Some now) where
  left_of : (p : Bool) (left : IsLeft p was now) → after ≡ option_map (changed p left.0) first
  left_of p (change, is) = first_is ∙ ap Some is ∙ ap (option_map (changed p change)) (sym first_was)

  pub no_handle_left : (p : Bool) → IsLeft p was now → HasNoHandle first → HasNoHandle after
  no_handle_left p left h = subst HasNoHandle (sym (left_of p left)) (left_no_handle _ left.0 first h)

module _ {S H K : Type 0} (list : List (Entry K)) (does : S → K → List (Union H) → Option (Done S H)) (s : S) (q : Request H)
    (call : Option (Found K)) (is_found : call ≡ found list q.key) (after : Option (Dynamic H)) {was now : Dynamic H}
    (first_was : q.first ≡ Some was) (first_is : after ≡ Some now) (state : S) where
  pub leaves_left : (host : H → List ℕ) → IsLeft (is_pure call) was now → Leaves host (natives_in list does) s q after state
  leaves_left host left =
      subst (λ first. Leaves host (natives_in list does) s q first state) (sym (left_of first_was first_is _ left))
      (subst (λ call. Leaves host (natives_in list does) s q (option_map (changed (is_pure call) left.0) q.first) state)
      (sym is_found) (list_leaves list does host s q left.0 state))

  pub obeys_found : (reply : Option (Reply H)) → Obeys (effect_of does s call (Some was) q.rest) reply (Some now) state →
      Obeys ((natives_in list does).gives s q) reply after state
  obeys_found reply held =
      subst (λ call. Obeys (effect_of does s call q.first q.rest) reply after state) is_found
      (subst (λ first. Obeys (effect_of does s call first q.rest) reply after state) (sym first_was)
      (subst (λ first. Obeys (effect_of does s call (Some was) q.rest) reply first state) (sym first_is) held))
