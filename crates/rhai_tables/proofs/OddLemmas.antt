-- What a call of the table `Odd` leaves, by what it does.
use Rattle.std.proofs.Common.{◌≡◌, ℕ, Bool, true, false, List, Option, Some, None, refl, sym, ap, ◌∙◌, subst}
use Rattle.std.specs.Option.{is_some}
use Rattle.rhai_values.specs.declared.base.value.Dynamic.{Dynamic}
use Rattle.rhai_values.specs.declared.base.value.FnPtr.{FnPtr}
use Rattle.rhai_values.specs.declared.base.value.Union.{Union}
use Rattle.rhai_values.specs.declared.base.value.Union.TheVariants as value
use Rattle.rhai_values.specs.declared.base.value.Union.TheVariants.{outs-FnPtr}
use Rattle.rhai_values.specs.Copy.{copy_of, copy_pointer, copy_union, plain}
use Rattle.rhai_values.proofs.CopyLemmas.{copy-FnPtr}
use Rattle.rhai_errors.specs.Native.{Effect, Reply, Request, Gives, Missing, HasNoHandle, Leaves, Obeys, effect}
use Rattle.rhai_tables.specs.declared.host.Pair.{Pair}
use Rattle.rhai_tables.specs.Odd.{Kept, Does, as_value, given, is_pointer, kept_by, kept_of, missing, natives, pointer_in, pointer_of}
use Rattle.rhai_tables.specs.OddLaw.{effect_leaves, is_of, nothing_leaves, odd_lawful}

-- ---- what is done is what the table gives

pub does_obeys : (e : Effect Kept Pair) (before : Option (Dynamic Pair)) (s : Kept) (reply : Option (Reply Pair))
    (after : Option (Dynamic Pair)) (t : Kept) → Does e before s reply after t → Obeys e reply after t
does_obeys e before s None after t d = tt
does_obeys e before s (Some reply) after t d = d

module _ (host : Pair → List ℕ) (s : Kept) (q : Request Pair) (h : HasNoHandle q.first) where
  pub does_leave : (reply : Option (Reply Pair)) (after : Option (Dynamic Pair)) (t : Kept) →
      Does (natives.gives s q) q.first s reply after t → Leaves host natives s q after t
  does_leave None after t d =
      subst (λ first. Leaves host natives s q first t) (sym d.0)
      (subst (λ u. Leaves host natives s q q.first u) (sym d.1) (nothing_leaves host s q))
  does_leave (Some reply) after t d = subst (λ e. Leaves host natives s q e.first e.state) d (effect_leaves host s q h)

  pub does_no_handle : (reply : Option (Reply Pair)) (after : Option (Dynamic Pair)) (t : Kept) →
      Does (natives.gives s q) q.first s reply after t → HasNoHandle after
  does_no_handle None after t d = subst HasNoHandle (sym d.0) h
  does_no_handle (Some reply) after t d = subst (λ e. HasNoHandle e.first) d (odd_lawful host s q h).first_no_handle

-- ---- a copy of a value that is a pointer

copied : (u : Union Pair) (pointer : FnPtr Pair) → pointer_of u ≡ Some pointer → copy_union u ≡ value.FnPtr (copy_pointer pointer)
copied u pointer is = ap copy_union (is_of u pointer is) ∙ copy-FnPtr pointer

there : (pointer : FnPtr Pair) → pointer_of (value.FnPtr pointer) ≡ Some pointer
there pointer = ap pointer_in (outs-FnPtr pointer)

module _ (v : Dynamic Pair) (s : Kept) where
  keeps_at : (found : Option (FnPtr Pair)) → pointer_of v.value ≡ found → is_some found ≡ true →
      kept_by v s found ≡ effect (Gives (plain value.Unit)) (Some v) (pointer_of (copy_union v.value))
  keeps_at None is h = cc
  keeps_at (Some pointer) is h =
      ap (effect (Gives (plain value.Unit)) (Some v)) (sym (ap pointer_of (copied v.value pointer is) ∙ there (copy_pointer pointer)))

  -- what is kept of a pointer is its copy
  pub keeps_copy : is_pointer v.value ≡ true →
      kept_by v s (pointer_of v.value) ≡ effect (Gives (plain value.Unit)) (Some v) (pointer_of (copy_union v.value))
  keeps_copy h = keeps_at (pointer_of v.value) refl h

  keeps_none_at : (found : Option (FnPtr Pair)) → is_some found ≡ false → kept_by v s found ≡ missing v s
  keeps_none_at None h = refl
  keeps_none_at (Some pointer) h = cc

  -- another value is not kept
  pub keeps_none : is_pointer v.value ≡ false → kept_by v s (pointer_of v.value) ≡ missing v s
  keeps_none h = keeps_none_at (pointer_of v.value) h

gives_at : (v : Dynamic Pair) (found : Option (FnPtr Pair)) → pointer_of v.value ≡ found → is_some found ≡ true →
    given found ≡ effect (Gives (copy_of v)) None found
gives_at v None is h = cc
gives_at v (Some pointer) is h = ap (λ u. effect (Gives (plain u)) None (Some pointer)) (sym (copied v.value pointer is))

-- what is given of the pointer that is kept is its copy
pub gives_copy : (v : Dynamic Pair) → is_pointer v.value ≡ true →
    given (pointer_of v.value) ≡ effect (Gives (copy_of v)) None (pointer_of v.value)
gives_copy v h = gives_at v (pointer_of v.value) refl h

gives_none_at : (found : Option (FnPtr Pair)) → is_some found ≡ false → given found ≡ effect Missing None found
gives_none_at None h = refl
gives_none_at (Some pointer) h = cc

pub gives_none : (v : Dynamic Pair) → is_pointer v.value ≡ false → given (pointer_of v.value) ≡ effect Missing None (pointer_of v.value)
gives_none v h = gives_none_at (pointer_of v.value) h
