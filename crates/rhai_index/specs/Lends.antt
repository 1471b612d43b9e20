-- What the focus that was indexed ends as, once the target's borrow has ended: `object` is the focus before.
use Rattle.std.specs.Prelude.{◌≡◌, Bool, true, false, Option, Some, Result, IsOk, OnErr}
use Rattle.std.specs.Borrow.{follows_so, MutBor, RattleType, Fml}
use Rattle.rhai_values.specs.contracts.base.value.Dynamic as dynamic
use Rattle.rhai_values.specs.Cells.{IsNoHandle}
use Rattle.rhai_errors.specs.Native.{AreReached, Natives, Request}
use Rattle.rhai_values.specs.ValueContents.{contents_of}
use Rattle.rhai_index.specs.Types.{Dynamic, EvalAltResult, Spot, Target}
use Rattle.rhai_spots.specs.Found.{EndsBy}
use Rattle.rhai_places.specs.Lends.{result_name}
use Rattle.rhai_machine.specs.language.State.{HasMemory}

module _ {H : Type 0} where
  -- what the focus ends as, where the place of the target ends as it was changed: with that at the place, or where an indexer
  -- was asked as that
  abbrev pub EndsAs : (asked : Bool) → Result (Dynamic H × Spot) (EvalAltResult H) → (place end : Dynamic H) → Type 0
  EndsAs true found place end = end ≡ place
  EndsAs false found place end = EndsBy found place end

  -- what a native may leave of its first argument, where it finds no memory too: no bare handle, and nothing that was not reached
  abbrev pub MayEndAs : {S : Type 0} → Natives S H → S → Request H → (end : Dynamic H) → Type 0
  MayEndAs natives t q end = IsNoHandle end.value × AreReached natives.holds t q (contents_of natives.holds.of_host end)

  -- at an error the focus stays; where an indexer was called it is as that left it, unless memory ran out, and one of those that it may
  -- leave, where memory ran out too
  abbrev pub EndsRefused : (called : Bool) → (left : Option (Dynamic H)) → (MayEnd : Dynamic H → Type 0) →
      Result (Target H) (EvalAltResult H) → (object end : Dynamic H) → Type 0
  EndsRefused true left MayEnd r object end = (HasMemory r → left ≡ Some end) × MayEnd end
  EndsRefused false left MayEnd r object end = end ≡ object

module _ (H : RattleType) where
  -- once the borrow has ended, the focus ends as `EndsAs` says of a target, and as `EndsRefused` says of an error
  abbrev pub lends_indexed : (asked called : Bool) → (left : Option (Dynamic H.Denot)) → (MayEnd : Dynamic H.Denot → Type 0) →
      MutBor (Dynamic H.Denot) → Result (Dynamic H.Denot × Spot) (EvalAltResult H.Denot) →
      Result (Target H.Denot) (EvalAltResult H.Denot) → Fml
  lends_indexed asked called left MayEnd s found r =
      follows_so (dynamic.the_row H) (dynamic.the_row H) s.ghost_name (result_name H r)
      (λ x n. IsOk r → EndsAs asked found x n) (λ n. OnErr r (EndsRefused called left MayEnd r s.now n))
