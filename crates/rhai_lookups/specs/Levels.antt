-- The caches of a run, and when they fit its libraries and imports.
use Rattle.std.specs.Prelude.{◌≡◌, ◌≤◌, ℕ, max, Bool, true, false, List, [], ◌∷◌, ◌++◌, Option, Some, None, if◌then◌else◌, length}
use Rattle.std.specs.List.{All}
use Rattle.rhai_lookups.specs.declared.cache.FnResolutionCache.{FnResolutionCache}
use Rattle.rhai_lookups.specs.declared.cache.FnResolutionCacheEntry.{FnResolutionCacheEntry}
use Rattle.rhai_lookups.specs.declared.caches.Caches.{Caches}
use Rattle.rhai_lookups.specs.declared.caches.Levels.{Levels}
use Rattle.rhai_lookups.specs.declared.caches.Levels.TheVariants.{Empty, Filled, Off}
use Rattle.rhai_lookups.specs.declared.caches.Stack.{Stack}
use Rattle.rhai_lookups.specs.Fits.{FitsLists, FitsNow, IsCurrent, IsRight}
use Rattle.rhai_lookups.specs.Lists.{Lists, kept_of}

module _ {H : Type 0} where
  -- a cache that keeps nothing yet, and was made for no library and no import
  abbrev pub empty_cache : FnResolutionCache H
  empty_cache = record { extent = record { libs = 0; imports = 0 }; entries = []; places = tt }

  -- the caches of a stack, the newest last
  abbrev pub stacked : Stack H → List (FnResolutionCache H)
  stacked stack = stack.below ++ stack.top ∷ []

  -- the caches, the newest last
  abbrev pub caches_in : Levels H → List (FnResolutionCache H)
  caches_in Off = []
  caches_in Empty = []
  caches_in (Filled stack) = stacked stack

  -- the caches below the newest
  abbrev pub below_in : Levels H → List (FnResolutionCache H)
  below_in Off = []
  below_in Empty = []
  below_in (Filled stack) = stack.below

  -- the entries of the newest cache
  abbrev pub entries_in : Levels H → List (FnResolutionCacheEntry H)
  entries_in Off = []
  entries_in Empty = []
  entries_in (Filled stack) = stack.top.entries

  -- the caches are on
  abbrev pub is_on_in : Levels H → Bool
  is_on_in Off = false
  is_on_in Empty = true
  is_on_in (Filled stack) = true

  -- the newest cache, if there is one, says what the libraries and imports have, where it was made for as many as there are
  abbrev pub NewestFits : Lists H → Levels H → Type 0
  NewestFits lists Off = Unit {0}
  NewestFits lists Empty = Unit {0}
  NewestFits lists (Filled stack) = FitsNow lists stack.top

  -- the newest cache, if there is one, was made for as many as there are, and says what they have
  abbrev pub NewestIsCurrent : Lists H → Levels H → Type 0
  NewestIsCurrent lists Off = Unit {0}
  NewestIsCurrent lists Empty = Unit {0}
  NewestIsCurrent lists (Filled stack) = IsCurrent lists stack.top

  -- each cache fits
  abbrev pub AllFit : Lists H → Levels H → Type 0
  AllFit lists levels = All (FitsLists lists) (caches_in levels)

  -- there is one at least, where the caches are on
  abbrev pub begun : Levels H → Levels H
  begun Off = Off
  begun Empty = Filled (record { top = empty_cache; below = [] })
  begun (Filled stack) = Filled stack

  -- the caches are on, and there is none
  abbrev pub is_empty_in : Levels H → Bool
  is_empty_in Off = false
  is_empty_in Empty = true
  is_empty_in (Filled stack) = false

  -- ---- what a run takes of them, and gives back

  -- the newest cache by itself
  abbrev pub alone : Levels H → Levels H
  alone Off = Off
  alone Empty = Empty
  alone (Filled stack) = Filled (record { top = stack.top; below = [] })

  -- what is left without the entries of the newest cache
  abbrev pub emptied : Levels H → Levels H
  emptied Off = Off
  emptied Empty = Empty
  emptied (Filled stack) = Filled (record { top = empty_cache; below = stack.below })

  -- a cache in the place of the newest, where the caches are on
  abbrev pub put_newest : Levels H → FnResolutionCache H → Levels H
  put_newest Off cache = Off
  put_newest Empty cache = Filled (record { top = cache; below = [] })
  put_newest (Filled stack) cache = Filled (record { top = cache; below = stack.below })

  -- the newest of a run in the place of the newest
  abbrev pub given_back : Levels H → (run : Levels H) → Levels H
  given_back levels Off = emptied levels
  given_back levels Empty = emptied levels
  given_back levels (Filled own) = put_newest levels own.top

  -- ---- as a caller has them

  abbrev pub caches_of : Caches H → List (FnResolutionCache H)
  caches_of caches = caches_in caches.levels

  abbrev pub below_of : Caches H → List (FnResolutionCache H)
  below_of caches = below_in caches.levels

  abbrev pub entries_of : Caches H → List (FnResolutionCacheEntry H)
  entries_of caches = entries_in caches.levels

  abbrev pub is_on : Caches H → Bool
  is_on caches = is_on_in caches.levels

  -- how many caches there are
  abbrev pub depth_of : Caches H → ℕ
  depth_of caches = length (caches_of caches)

  -- the caches after one more, where they are on
  abbrev pub caches_after_push : Caches H → List (FnResolutionCache H)
  caches_after_push caches = if is_on caches then caches_of caches ++ empty_cache ∷ [] else []

  -- caches that a run over these libraries and imports may take
  unfoldable pub CachesFit : Lists H → Caches H → Type 0
  CachesFit lists caches = NewestFits lists caches.levels

  -- each entry of the newest cache says what a lookup in these libraries and imports comes to
  abbrev pub EntriesRight : Lists H → Caches H → Type 0
  EntriesRight lists caches = All (IsRight (kept_of lists)) (entries_of caches)

  -- the caches of a caller as a run over these libraries and imports leaves them
  pub record CachesLeft (lists : Lists H) (old new : Caches H) : Type 0 where
    pub fit : CachesFit lists new
    pub right : EntriesRight lists new
    pub below : below_of new ≡ below_of old
    pub depth : depth_of new ≤ max 1 (depth_of old)
    pub on : is_on new ≡ is_on old
