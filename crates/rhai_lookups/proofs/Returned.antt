-- What a run leaves of its caller's caches, whose newest stood there without entries meanwhile.
use Rattle.std.proofs.Common.{◌≡◌, ◌≤◌, ℕ, List, [], ◌∷◌, ◌++◌, length, refl, sym, ap, subst, ◌∙◌, arith, length-append}
use Rattle.std.specs.Prelude.{max}
use Rattle.rhai_lookups.specs.declared.caches.Caches.{Caches}
use Rattle.rhai_lookups.specs.declared.caches.Levels.{Levels}
use Rattle.rhai_lookups.specs.declared.caches.Levels.TheVariants.{Empty, Filled, Off}
use Rattle.rhai_lookups.specs.Levels.{CachesFit, CachesLeft, EntriesRight}
use Rattle.rhai_lookups.specs.Levels.{below_in, below_of, caches_in, depth_of, emptied, is_on, is_on_in}
use Rattle.rhai_lookups.specs.Lists.{Lists}

-- a list is as long whatever its last is
as_long : {A : Type 0} (xs : List A) (x y : A) → length (xs ++ x ∷ []) ≡ length (xs ++ y ∷ [])
as_long xs x y = length-append xs (x ∷ []) ∙ sym (length-append xs (y ∷ []))

module _ {H : Type 0} where
  below_stays : (levels : Levels H) → below_in (emptied levels) ≡ below_in levels
  below_stays Off = refl
  below_stays Empty = refl
  below_stays (Filled stack) = refl

  depth_stays : (levels : Levels H) → length (caches_in (emptied levels)) ≡ length (caches_in levels)
  depth_stays Off = refl
  depth_stays Empty = refl
  depth_stays (Filled stack) = as_long stack.below _ stack.top

  on_stays : (levels : Levels H) → is_on_in (emptied levels) ≡ is_on_in levels
  on_stays Off = refl
  on_stays Empty = refl
  on_stays (Filled stack) = refl

  -- what was lent comes back
  pub returned : (lists : Lists H) (old mid new : Caches H) → mid ≡ record old { levels = emptied old.levels } →
      CachesLeft lists mid new → CachesLeft lists old new
  returned lists old mid new lent left = record {
    fit = left.fit;
    right = left.right;
    below = left.below ∙ ap below_of lent ∙ below_stays old.levels;
    depth = subst (λ (n : ℕ). depth_of new ≤ max 1 n) (ap depth_of lent ∙ depth_stays old.levels) left.depth;
    on = left.on ∙ ap is_on lent ∙ on_stays old.levels;
  }

  -- one run after another
  pub left_twice : (lists between : Lists H) (old mid new : Caches H) → CachesLeft between old mid → CachesLeft lists mid new →
      CachesLeft lists old new
  left_twice lists between old mid new first second = record {
    fit = second.fit;
    right = second.right;
    below = second.below ∙ first.below;
    depth = omega (arith, first.depth, second.depth);
    on = second.on ∙ first.on;
  }

  -- nothing was run
  pub left_alone : (lists : Lists H) (caches : Caches H) → CachesFit lists caches → EntriesRight lists caches →
      CachesLeft lists caches caches
  left_alone lists caches fit right = record { fit = fit; right = right; below = refl; depth = omega arith; on = refl }
