-- The table of every list of natives is lawful.
use Rattle.std.proofs.Common.{◌≡◌, ℕ, Bool, true, false, List, [], Option, Some, None, refl, sym, ◌∙◌, subst}
use Rattle.std.specs.Option.{option_map}
use Rattle.rhai_values.specs.declared.base.value.Dynamic.{Dynamic}
use Rattle.rhai_values.specs.declared.base.value.Union.{Union}
use Rattle.rhai_values.specs.Cells.{IsNoHandle}
use Rattle.rhai_errors.specs.Native.{Request, Key, Named, Numbered, HasNoHandle, IsAllowed, KeepsFirst, Leaves, Lawful, AreReached}
use Rattle.rhai_errors.specs.Native.{ByFirst, reply_contents, purity_of}
use Rattle.rhai_natives.specs.declared.response.Datum.{Datum}
use Rattle.rhai_natives.specs.declared.response.Datum.TheVariants as datum
use Rattle.rhai_natives.specs.declared.response.Fault.TheVariants as fault
use Rattle.rhai_natives.specs.declared.response.Response.{Response}
use Rattle.rhai_natives.specs.declared.response.Response.TheVariants as response
use Rattle.rhai_natives.specs.Arguments.{values_in}
use Rattle.rhai_natives.specs.Found.{found, is_pure, key_in}
use Rattle.rhai_natives.specs.Listed.{Entry}
use Rattle.rhai_natives.specs.Responses.{Done, union_of}
use Rattle.rhai_natives.specs.Table.{change_in, changed, done_by, effect_for, natives_in, nothing, reply_for}
use Rattle.rhai_natives.specs.NoContents.{contents-response, contents-changed, nothing_in}

module _ {H : Type 0} where
  datum_no_handle : (d : Datum H) → IsNoHandle (union_of d)
  datum_no_handle datum.Unit = tt
  datum_no_handle (datum.Bool truth) = tt
  datum_no_handle (datum.Int number) = tt
  datum_no_handle (datum.Char letter) = tt
  datum_no_handle (datum.Text text) = tt
  datum_no_handle (datum.Integers numbers) = tt
  datum_no_handle (datum.Host h) = tt

  allowed : (r : Response H) → IsAllowed (reply_for r)
  allowed (response.Gives d) = datum_no_handle d
  allowed (response.Changes d first) = datum_no_handle d
  allowed (response.Faults (fault.Arithmetic text)) = tt
  allowed (response.Faults (fault.IndexingType text)) = tt
  allowed (response.Faults (fault.PropertyNotFound text)) = tt
  allowed (response.Faults (fault.Runtime d)) = tt
  allowed response.NoMemory = tt

  -- what stays
  unchanged : (p : Bool) (first : Option (Dynamic H)) → option_map (changed p None) first ≡ first
  unchanged p None = refl
  unchanged true (Some v) = refl
  unchanged false (Some v) = refl

  pub pure_stays : (change : Option (Datum H)) (first : Option (Dynamic H)) → option_map (changed true change) first ≡ first
  pure_stays change None = refl
  pure_stays change (Some v) = refl

  missing_stays : (p : Bool) (r : Response H) (first : Option (Dynamic H)) →
      KeepsFirst (reply_for r) first (option_map (changed p (change_in r)) first)
  missing_stays p (response.Gives d) first = tt
  missing_stays p (response.Changes d changes) first = tt
  missing_stays p (response.Faults f) first = tt
  missing_stays p response.NoMemory first = unchanged p first

  pub left_no_handle : (p : Bool) (change : Option (Datum H)) (first : Option (Dynamic H)) → HasNoHandle first →
      HasNoHandle (option_map (changed p change) first)
  left_no_handle p change None h = h
  left_no_handle true change (Some v) h = h
  left_no_handle false None (Some v) h = h
  left_no_handle false (Some d) (Some v) h = datum_no_handle d

-- the parts of the law that speak of the effect alone
module _ {S H : Type 0} (p : Bool) (s : S) (q : Request H) where
  effect_allowed : (done : Option (Done S H)) → IsAllowed (effect_for p s done q.first).reply
  effect_allowed None = tt
  effect_allowed (Some d) = allowed d.response

  effect_no_handle : (done : Option (Done S H)) → HasNoHandle q.first → HasNoHandle (effect_for p s done q.first).first
  effect_no_handle None h = h
  effect_no_handle (Some d) h = left_no_handle p _ q.first h

  effect_keeps : (done : Option (Done S H)) →
      KeepsFirst (effect_for p s done q.first).reply q.first (effect_for p s done q.first).first
  effect_keeps None = refl
  effect_keeps (Some d) = missing_stays p d.response q.first

  effect_reached : (done : Option (Done S H)) →
      AreReached nothing s q (reply_contents (λ h. []) (effect_for p s done q.first).reply)
  effect_reached None = nothing_in
  effect_reached (Some d) = subst (AreReached nothing s q) (sym (contents-response d.response)) nothing_in

module _ {S H K : Type 0} (list : List (Entry K)) (does : S → K → List (Union H) → Option (Done S H)) (host : H → List ℕ) where
  -- the purity that is asked for a call is that of the native which it finds
  asked : (key : Key) (first_type : List ℕ) (count : ℕ) →
      is_pure (found list (key_in (purity_of key first_type count))) ≡ is_pure (found list key)
  asked (Named name) first_type count = refl
  asked (Numbered number) first_type count = refl

  -- what a call leaves, whether or not there was memory
  pub list_leaves : (s : S) (q : Request H) (change : Option (Datum H)) (state : S) →
      Leaves host (natives_in list does) s q (option_map (changed (is_pure (found list q.key)) change) q.first) state
  list_leaves s q change state = record {
    pure_keeps = λ pure.
        let p = sym (asked q.key _ _) ∙ pure in
        subst (λ p. option_map (changed p change) q.first ≡ q.first) (sym p) (pure_stays change q.first);
    first_reached = contents-changed _ change q.first (AreReached nothing s q) nothing_in (λ r held. ByFirst held);
    state_reached = nothing_in;
  }

  effect_leaves : (s : S) (q : Request H) (done : Option (Done S H)) →
      let e = effect_for (is_pure (found list q.key)) s done q.first in
      Leaves host (natives_in list does) s q e.first e.state
  effect_leaves s q None =
      subst (λ first. Leaves host (natives_in list does) s q first s) (unchanged _ q.first) (list_leaves s q None s)
  effect_leaves s q (Some d) = list_leaves s q (change_in d.response) d.state

  pub lawful_list : Lawful host (natives_in list does)
  lawful_list s q h =
      let done = done_by does s (found list q.key) (values_in q.first q.rest) in
      record {
        allowed = effect_allowed _ s q done;
        first_no_handle = effect_no_handle _ s q done h;
        missing_keeps = effect_keeps _ s q done;
        leaves = effect_leaves s q done;
        answer_reached = effect_reached _ s q done;
        reads_reached = λ cells agrees. refl;
      }
