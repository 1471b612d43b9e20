-- How `Shared` stores its value, so that a type may contain itself behind a counted pointer: the shape says nothing, and its one hole
-- is the value.
use mathlib.Core.Path.{refl}
use mathlib.Core.Former.{Former, this, const, pair, via}
use base.Stored.{gnil}
use base.Fml.{ftrue}
use denote.RattleType.{RattleType}
use denote.Memory.{part_of}
use denote.RawPtr.{Ptr}
use denote.Sharing.{nothing}
use denote.HoleLaws.{Alike}
use denote.HolePlaces.{Recodes, struct_places, laid, one_value}
use denote.Hole.Fix.{over}
use denote.Param.Weighed.{Weighed}
use denote.Model.Placed.{view_places}
use Rattle.std.specs.declared.rc.Rc.{Rc}
use Rattle.std.specs.contracts.rc.Rc as rc
use Rattle.std.specs.declared.alloc.Global.{Global}
use Rattle.std.specs.contracts.alloc.Global as heap
use Rattle.std.specs.contracts.impls.GlobalAllocator.TheImpl.{ghosts}
use Rattle.rhai_tree.specs.declared.shared.Shared.TheInside.{Inside}
use Rattle.rhai_tree.specs.declared.shared.Shared.TheView.{view, invariant}
use Rattle.rhai_tree.specs.contracts.shared.Shared as C
use Rattle.rhai_tree.specs.contracts.shared.Shared.TheInside as I

-- the shape of a `Shared` over a shape: that of its value
abbrev pub the_former : Former {0} → Former {0}
the_former g = g

-- the measure of a `Shared`: that of its value
abbrev pub the_weighed : {g : Former {0}} → Weighed g → Weighed (the_former g)
the_weighed w = w

-- the fields, as that shape and its hole
abbrev stored : Former {0}
stored = via (pair (const Ptr) this) Inside (λ X a. (a.inner.ptr, a.inner.value))
    (λ X v. record { inner = record { ptr = v.0; value = v.1 } }) (λ X a. refl) (λ X v. refl)

-- the same pointer over another value
abbrev holding : {X Y : Type 0} → Rc X Global → Y → Rc Y Global
holding b y = record { ptr = b.ptr; value = y }

-- the type of an `Rc` in the heap, over the type of its value
abbrev rc_of : RattleType → RattleType
rc_of R = rc.the_row R heap.the_row ghosts

module _ (R S : RattleType) (h : R.Denot → S.Denot) where
  rc_places : Alike R S h → Alike (rc_of R) (rc_of S) (λ b. holding b (h b.value))
  unfolding part_of
  rc_places a = record {
    mir_same = λ i. (rc_of (one_value R (a.mir_same i) (λ _. ftrue) (λ _ _. nothing) gnil)).mir;
    own_same = λ b i. (rc_of (one_value R (a.mir_same i) (a.own_same b.value i) (a.shr_same b.value i) gnil)).own_val (holding b tt);
    shr_same = λ b i. (rc_of (one_value R (a.mir_same i) (a.own_same b.value i) (a.shr_same b.value i) gnil)).shr_at (holding b tt);
  }

  -- at two types of one layout the two lie alike in memory
  pub the_places : Alike R S h → Alike (C.the_row R) (C.the_row S) ((the_former this).map R.Denot S.Denot h)
  the_places a = view_places stored this view (λ X Y k u. refl) (λ X u. refl) R.Denot S.Denot h (C.the_row R).coded (C.the_row S).coded
      (invariant R.Denot) (invariant S.Denot) (λ u p q. refl) (λ u p q. refl) (λ u e. tt) (λ u e. tt)
      (over (I.the_row R)) (over (I.the_row S))
      (struct_places (I.the_type R) (I.the_type S) ((λ b. holding b (h b.value)), tt) _ (λ d. refl) refl (laid _ _ _ (rc_places a), tt))

  -- and so do their codes
  pub the_codes_placed : Recodes R S h → Recodes (C.the_row R) (C.the_row S) ((the_former this).map R.Denot S.Denot h)
  the_codes_placed e d = e d
