-- When a cache fits libraries and imports.
use Rattle.std.specs.Prelude.{◌≡◌, ◌≤◌, length}
use Rattle.std.specs.List.{All}
use Rattle.rhai_functions.specs.Functions.{FunctionKey}
use Rattle.rhai_lookups.specs.declared.cache.Extent.{Extent}
use Rattle.rhai_lookups.specs.declared.cache.FnResolutionCache.{FnResolutionCache}
use Rattle.rhai_lookups.specs.declared.cache.FnResolutionCacheEntry.{FnResolutionCacheEntry}
use Rattle.rhai_lookups.specs.declared.cache.Kept.{Kept}
use Rattle.rhai_lookups.specs.Keys.{key_kept}
use Rattle.rhai_lookups.specs.Lists.{Lists, extent_of, first_of, kept_of}

module _ {H : Type 0} where
  -- an entry says what a lookup of its key comes to
  abbrev pub IsRight : (finds : FunctionKey → Kept H) → FnResolutionCacheEntry H → Type 0
  IsRight finds entry = entry.kept ≡ finds (key_kept entry.key)

  -- all entries of a cache do
  abbrev pub AllRight : (finds : FunctionKey → Kept H) → FnResolutionCache H → Type 0
  AllRight finds cache = All (IsRight finds) cache.entries

  -- so many libraries and imports are there
  abbrev pub IsWithin : Extent → Lists H → Type 0
  IsWithin extent lists = (extent.libs ≤ length lists.0) × (extent.imports ≤ length lists.1)

  -- a cache was made for so many libraries and imports, no more than there are, and says what the first so many of each have
  abbrev pub FitsLists : Lists H → FnResolutionCache H → Type 0
  FitsLists lists cache = IsWithin cache.extent lists × AllRight (kept_of (first_of lists cache.extent)) cache

  -- a cache that was made for as many as there are says what they have; of another nothing is known
  abbrev pub FitsNow : Lists H → FnResolutionCache H → Type 0
  FitsNow lists cache = cache.extent ≡ extent_of lists → AllRight (kept_of lists) cache

  -- a cache was made for as many as there are, and says what they have
  abbrev pub IsCurrent : Lists H → FnResolutionCache H → Type 0
  IsCurrent lists cache = (cache.extent ≡ extent_of lists) × AllRight (kept_of lists) cache
