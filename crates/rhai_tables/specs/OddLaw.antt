-- The table of `Odd` is lawful.
use Rattle.std.proofs.Common.{◌≡◌, ℕ, ℤ, Bool, true, false, List, [], ◌∷◌, Option, Some, None, Contains, refl, sym, ap, ◌∙◌, subst, arith}
use Rattle.std.specs.Option.{option_map}
use Rattle.rhai_tree.specs.Position.{none}
use Rattle.rhai_values.specs.declared.base.value.Dynamic.{Dynamic}
use Rattle.rhai_values.specs.declared.base.value.FnPtr.{FnPtr}
use Rattle.rhai_values.specs.declared.base.value.FnPtrKind.TheOpen as layer
use Rattle.rhai_values.specs.declared.base.value.FnPtrKind.TheFolds.{fold_out-Dynamic}
use Rattle.rhai_values.specs.declared.base.value.Union.{Union, out-Union, roll-Union, roll-out-Union}
use Rattle.rhai_values.specs.declared.base.value.Union.TheVariants as value
use Rattle.rhai_values.specs.declared.base.value.Union.TheVariants.{rolls-FnPtr}
use Rattle.rhai_values.specs.Cells.{IsNoHandle}
use Rattle.rhai_values.specs.Copy.{copy_of, copy_pointer, plain}
use Rattle.rhai_values.specs.Layers.{UnionLayer}
use Rattle.rhai_values.specs.ValueContents.{Reached, contents_of, first_contents}
use Rattle.rhai_values.proofs.CopyContents.{contents-copy}
use Rattle.rhai_values.proofs.CopyLemmas.{copy-FnPtr}
use Rattle.rhai_errors.specs.declared.error.EvalAltResult.TheFolds.{fold_out-EvalAltResult}
use Rattle.rhai_errors.specs.declared.error.EvalAltResult.TheVariants as error
use Rattle.rhai_errors.specs.declared.error.EvalAltResult.TheVariants.{outs-Exit}
use Rattle.rhai_errors.specs.ErrorContents.{error_contents}
use Rattle.rhai_errors.specs.Native.{Effect, Request, Key, Named, Numbered, Missing, HasNoHandle, IsAllowed, KeepsFirst, Leaves, Lawful}
use Rattle.rhai_errors.specs.Native.{IsReached, AreReached, ByState, ByFirst, effect, purity_of, reply_contents}
use Rattle.rhai_errors.proofs.ContentLemmas.{contents-int, contents-mode, contents-runtime, contents-unit}
use Rattle.rhai_natives.specs.Arguments.{int_of}
use Rattle.rhai_tables.specs.declared.host.Pair.{Pair}
use Rattle.rhai_tables.specs.declared.tables.odd.OddNative.{OddNative}
use Rattle.rhai_tables.specs.declared.tables.odd.OddNative.TheVariants.{Fail, Leave, Sum, Keep, Give}
use Rattle.rhai_tables.specs.Odd.{Kept, Does, alone, as_value, asked, effect_of, failed, found, given, holds, is_pure, kept_by, left}
use Rattle.rhai_tables.specs.Odd.{natives, on_first, on_one, on_two, on_two_integers, own, pointer_in, pointer_of}

-- ---- what stands where

contents-exit : (v : Dynamic Pair) → error_contents own (error.Exit v none) ≡ contents_of own v
contents-exit v = simp (fold_out-EvalAltResult, outs-Exit)

contents-copied : (pointer : FnPtr Pair) → contents_of own (as_value (copy_pointer pointer)) ≡ contents_of own (as_value pointer)
contents-copied pointer =
    ap (λ u. contents_of own (plain u)) (sym (copy-FnPtr pointer)) ∙ contents-copy own (as_value pointer)

is_layer : (l : UnionLayer Pair) (pointer : FnPtr Pair) → pointer_in l ≡ Some pointer → l ≡ layer.FnPtr pointer
is_layer (layer.FnPtr p) pointer is = cc
is_layer _ pointer is = cc

-- a value that is a pointer
pub is_of : (u : Union Pair) (pointer : FnPtr Pair) → pointer_of u ≡ Some pointer → u ≡ value.FnPtr pointer
is_of u pointer is =
    sym (roll-out-Union Pair u) ∙ ap (roll-Union Pair) (is_layer (out-Union Pair u) pointer is) ∙ rolls-FnPtr pointer

contents-of_pointer : (v : Dynamic Pair) (pointer : FnPtr Pair) → pointer_of v.value ≡ Some pointer →
    contents_of own (as_value (copy_pointer pointer)) ≡ contents_of own v
contents-of_pointer v pointer is =
    contents-copied pointer ∙ ap (λ u. contents_of own (plain u)) (sym (is_of v.value pointer is)) ∙ sym (contents-mode own v.value v.mode)

-- ---- what an effect leaves

-- `P` is what a call reaches with this first argument in this state
module _ (first : Option (Dynamic Pair)) (s : Kept) (P : Reached → Type 0)
    (by_first : (r : Reached) → Contains (first_contents own first) r → P r)
    (by_state : (r : Reached) → Contains (holds.of_state s) r → P r) where
  -- an effect that the law lets through
  record Good (e : Effect Kept Pair) : Type 0 where
    allowed : IsAllowed e.reply
    no_handle : HasNoHandle e.first
    keeps : KeepsFirst e.reply first e.first
    first_reached : (r : Reached) → Contains (first_contents own e.first) r → P r
    state_reached : (r : Reached) → Contains (holds.of_state e.state) r → P r
    answer_reached : (r : Reached) → Contains (reply_contents own e.reply) r → P r

  nothing_in : (r : Reached) → Contains [] r → P r
  nothing_in r (k, below, is) = absurd (omega (arith, below))

  -- what stands in one stands in another
  moved : (from to : List Reached) → from ≡ to → ((r : Reached) → Contains to r → P r) → (r : Reached) → Contains from r → P r
  moved from to same all r held = all r (subst (λ l. Contains l r) same held)

  stays : HasNoHandle first → Good (effect Missing first s)
  stays h = record {
    allowed = tt;
    no_handle = h;
    keeps = refl;
    first_reached = by_first;
    state_reached = by_state;
    answer_reached = nothing_in;
  }

module _ (s : Kept) (P : Reached → Type 0) (by_first : (r : Reached) → Contains [] r → P r)
    (by_state : (r : Reached) → Contains (holds.of_state s) r → P r) where
  abbrev GoodAlone : Effect Kept Pair → Type 0
  GoodAlone = Good None s P by_first by_state

module _ (P : Reached → Type 0) (by_first : (r : Reached) → Contains [] r → P r) where
  given_good : (s : Kept) (by_state : (r : Reached) → Contains (holds.of_state s) r → P r) → Good None s P by_first by_state (given s)
  given_good None by_state = stays None None P by_first by_state tt
  given_good (Some pointer) by_state = record {
    allowed = tt;
    no_handle = tt;
    keeps = tt;
    first_reached = by_first;
    state_reached = by_state;
    answer_reached = moved None (Some pointer) P by_first by_state _ _ (contents-copied pointer) by_state;
  }

  module _ (s : Kept) (by_state : (r : Reached) → Contains (holds.of_state s) r → P r) where
    alone_good : (native : Option OddNative) (rest : List (Dynamic Pair)) → Good None s P by_first by_state (alone native s rest)
    alone_good None rest = stays None s P by_first by_state tt
    alone_good (Some Fail) rest = stays None s P by_first by_state tt
    alone_good (Some Leave) rest = stays None s P by_first by_state tt
    alone_good (Some Sum) rest = stays None s P by_first by_state tt
    alone_good (Some Keep) rest = stays None s P by_first by_state tt
    alone_good (Some Give) [] = given_good s by_state
    alone_good (Some Give) (w ∷ rest) = stays None s P by_first by_state tt

module _ (v : Dynamic Pair) (h : IsNoHandle v.value) (s : Kept) (P : Reached → Type 0)
    (by_first : (r : Reached) → Contains (contents_of own v) r → P r)
    (by_state : (r : Reached) → Contains (holds.of_state s) r → P r) where
  abbrev GoodOn : Effect Kept Pair → Type 0
  GoodOn = Good (Some v) s P by_first by_state

  missing_good : GoodOn (effect Missing (Some v) s)
  missing_good = stays (Some v) s P by_first by_state h

  none_in : (held : List Reached) → held ≡ [] → (r : Reached) → Contains held r → P r
  none_in held is = moved (Some v) s P by_first by_state held [] is (nothing_in (Some v) s P by_first by_state)

  failed_good : (n : Option ℤ) → GoodOn (failed v s n)
  failed_good None = missing_good
  failed_good (Some n) = record {
    allowed = tt;
    no_handle = tt;
    keeps = tt;
    first_reached = none_in _ (contents-mode own _ v.mode ∙ contents-int own _);
    state_reached = by_state;
    answer_reached = none_in _ (contents-runtime own _ none ∙ contents-unit own);
  }

  left_good : GoodOn (left v s)
  left_good = record {
    allowed = tt;
    no_handle = h;
    keeps = tt;
    first_reached = by_first;
    state_reached = by_state;
    answer_reached = moved (Some v) s P by_first by_state _ _ (contents-exit (copy_of v) ∙ contents-copy own v) by_first;
  }

  integers_good : (a b : Option ℤ) → GoodOn (on_two_integers v s a b)
  integers_good None b = missing_good
  integers_good (Some a) None = missing_good
  integers_good (Some a) (Some b) = record {
    allowed = tt;
    no_handle = h;
    keeps = tt;
    first_reached = by_first;
    state_reached = by_state;
    answer_reached = none_in _ (contents-int own _);
  }

  kept_good : (there : Option (FnPtr Pair)) → pointer_of v.value ≡ there → GoodOn (kept_by v s there)
  kept_good None is = missing_good
  kept_good (Some pointer) is = record {
    allowed = tt;
    no_handle = h;
    keeps = tt;
    first_reached = by_first;
    state_reached = moved (Some v) s P by_first by_state _ _ (contents-of_pointer v pointer is) by_first;
    answer_reached = none_in _ (contents-unit own);
  }

  one_good : (native : OddNative) → GoodOn (on_one native s v)
  one_good Fail = failed_good (int_of v.value)
  one_good Leave = left_good
  one_good Sum = missing_good
  one_good Keep = kept_good (pointer_of v.value) refl
  one_good Give = missing_good

  two_good : (native : OddNative) (w : Dynamic Pair) → GoodOn (on_two native s v w)
  two_good Fail w = missing_good
  two_good Leave w = missing_good
  two_good Sum w = integers_good (int_of v.value) (int_of w.value)
  two_good Keep w = missing_good
  two_good Give w = missing_good

  first_good : (native : Option OddNative) (rest : List (Dynamic Pair)) → GoodOn (on_first native s v rest)
  first_good None rest = missing_good
  first_good (Some native) [] = one_good native
  first_good (Some native) (w ∷ []) = two_good native w
  first_good (Some native) (w ∷ x ∷ rest) = missing_good

good : (native : Option OddNative) (s : Kept) (first : Option (Dynamic Pair)) (rest : List (Dynamic Pair)) (P : Reached → Type 0)
    (by_first : (r : Reached) → Contains (first_contents own first) r → P r)
    (by_state : (r : Reached) → Contains (holds.of_state s) r → P r) → HasNoHandle first →
    Good first s P by_first by_state (effect_of native s first rest)
good native s None rest P by_first by_state h = alone_good P by_first s by_state native rest
good native s (Some v) rest P by_first by_state h = first_good v h s P by_first by_state native rest

-- ---- what is pure leaves the first argument

module _ (s : Kept) (v : Dynamic Pair) where
  integers_leave : (a b : Option ℤ) → (on_two_integers v s a b).first ≡ Some v
  integers_leave None b = refl
  integers_leave (Some a) None = refl
  integers_leave (Some a) (Some b) = refl

  first_leaves : (native : Option OddNative) (rest : List (Dynamic Pair)) → is_pure native ≡ true →
      (on_first native s v rest).first ≡ Some v
  first_leaves None rest pure = refl
  first_leaves (Some Sum) [] pure = refl
  first_leaves (Some Sum) (w ∷ []) pure = integers_leave (int_of v.value) (int_of w.value)
  first_leaves (Some Sum) (w ∷ x ∷ rest) pure = refl
  first_leaves (Some Fail) rest pure = cc
  first_leaves (Some Leave) rest pure = cc
  first_leaves (Some Keep) rest pure = cc
  first_leaves (Some Give) rest pure = cc

given_leaves : (s : Kept) → (given s).first ≡ None
given_leaves None = refl
given_leaves (Some pointer) = refl

alone_leaves : (native : Option OddNative) (s : Kept) (rest : List (Dynamic Pair)) → (alone native s rest).first ≡ None
alone_leaves None s rest = refl
alone_leaves (Some Fail) s rest = refl
alone_leaves (Some Leave) s rest = refl
alone_leaves (Some Sum) s rest = refl
alone_leaves (Some Keep) s rest = refl
alone_leaves (Some Give) s [] = given_leaves s
alone_leaves (Some Give) s (w ∷ rest) = refl

pure_leaves : (native : Option OddNative) (s : Kept) (first : Option (Dynamic Pair)) (rest : List (Dynamic Pair)) →
    is_pure native ≡ true → (effect_of native s first rest).first ≡ first
pure_leaves native s None rest pure = alone_leaves native s rest
pure_leaves native s (Some v) rest pure = first_leaves s v native rest pure

-- the native that is asked for its purity is the one that a call finds
asked_found : (key : Key) (first_type : List ℕ) (count : ℕ) → asked (purity_of key first_type count) ≡ found key
asked_found (Named name) first_type count = refl
asked_found (Numbered number) first_type count = refl

-- ---- the law

module _ (host : Pair → List ℕ) (s : Kept) (q : Request Pair) where
  by_first_of : (r : Reached) → Contains (first_contents own q.first) r → IsReached holds s q r
  by_first_of r held = ByFirst held

  by_state_of : (r : Reached) → Contains (holds.of_state s) r → IsReached holds s q r
  by_state_of r held = ByState held

  good_call : HasNoHandle q.first →
      Good q.first s (IsReached holds s q) by_first_of by_state_of (effect_of (found q.key) s q.first q.rest)
  good_call h = good (found q.key) s q.first q.rest (IsReached holds s q) by_first_of by_state_of h

  -- a call that answers leaves what it may
  pub effect_leaves : HasNoHandle q.first →
      Leaves host natives s q (natives.gives s q).first (natives.gives s q).state
  effect_leaves h = record {
    pure_keeps = λ pure. pure_leaves (found q.key) s q.first q.rest (ap is_pure (sym (asked_found q.key _ _)) ∙ pure);
    first_reached = (good_call h).first_reached;
    state_reached = (good_call h).state_reached;
  }

  -- and so does one that leaves all as it was
  pub nothing_leaves : Leaves host natives s q q.first s
  nothing_leaves = record { pure_keeps = λ pure. refl; first_reached = by_first_of; state_reached = by_state_of }

pub odd_lawful : (host : Pair → List ℕ) → Lawful host natives
odd_lawful host s q h = record {
  allowed = (good_call host s q h).allowed;
  first_no_handle = (good_call host s q h).no_handle;
  missing_keeps = (good_call host s q h).keeps;
  leaves = effect_leaves host s q h;
  answer_reached = (good_call host s q h).answer_reached;
  reads_reached = λ cells agrees. refl;
}
